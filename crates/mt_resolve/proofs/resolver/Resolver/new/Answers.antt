use Rattle.std.proofs.Common.{sym, subst}
use Rattle.mt_resolve.specs.Searches.{AreRead}
use Rattle.mt_resolve.proofs.Answered.{none_read}
use Rattle.mt_resolve.proofs.Known.{none_known}
use Rattle.mt_resolve.proofs.resolver.Resolver.new.Goals as goal

pub returns-clause-sound : goal.returns-clause-sound
returns-clause-sound c =
    let place = c.in_ok-new.field-0 in
    record {
      read = subst (λ m. AreRead place.options.now place.files.now m) (sym c.new-2.ensures.packages) (none_read place.options.now place.files.now);
      known = none_known place.options.now place.files.now _ c.new-3.ensures.empty;
    }
