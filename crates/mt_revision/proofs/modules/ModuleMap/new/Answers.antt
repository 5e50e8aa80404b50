use Rattle.std.proofs.Common.{ap, sym, ◌∙◌}
use Rattle.std.specs.FinMap as map
use Rattle.std.specs.Option.{is_some}
use Rattle.std.specs.Ordering.{nat_cmp}
use Rattle.mt_revision.specs.declared.modules.Module.{Module}
use Rattle.mt_revision.proofs.modules.ModuleMap.new.Goals as goal

pub invariant_of-result : goal.invariant_of-result
invariant_of-result c number h =
    let e = sym h ∙ ap (λ m. map.contains_key m number) c.new.ensures.empty ∙ ap is_some (map.get-empty {X = Module} nat_cmp number) in
    cc
