use Rattle.std.proofs.Common.{◌≡◌, None, sym, subst}
use Rattle.metro_program.specs.Builds.{IsNext, same_number}
use Rattle.metro_program.specs.States.{State}
use Rattle.metro_program.proofs.Bounded.{bounded_accept}
use Rattle.metro_program.proofs.state.ReplayState.accept.Goals as goal

pub invariant_of-self : goal.invariant_of-self
invariant_of-self c =
    let s : State = record { ask = c.self.inside.ask; files = c.self.inside.files; journal = c.self.inside.journal; numbering = c.self.inside.numbering; latest = c.self.inside.latest; refusal = c.self.inside.refusal } in
    let e : s ≡ c.args.self.now = c.self.view_is in
    bounded_accept s c.args.build c.self.invariant (subst (λ x. IsNext x c.args.build) (sym e) c.requires.next) (subst (λ x. same_number x ≡ None) (sym e) c.requires.new)
