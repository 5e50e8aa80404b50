use Rattle.std.proofs.Common.{subst}
use Rattle.std.specs.Prelude.{IfOk}
use Rattle.metro_program.specs.Builds.{IsNext}
use Rattle.metro_program.proofs.NextBuild.{IsBuild}
use Rattle.metro_program.proofs.state.first_build.Goals as goal

pub returns : goal.returns
returns g c = record {
  exact = λ sure. subst (λ s. IsBuild s c.build.result) c.new-state.ensures.opened (c.build.ensures.exact sure);
  next = subst (λ s. IfOk c.build.result (IsNext s)) c.new-state.ensures.opened c.build.ensures.next;
  kept = c.build.ensures.kept;
}
