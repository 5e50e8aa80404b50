use Rattle.std.proofs.Common.{rules, inl, inr, ◌≡◌, ◌++◌, ◌∷◌, [], option_copied, ap, sym, ◌∙◌}
use Rattle.mt_files.specs.Changes.{stepped}
use Rattle.metro_program.specs.States.{State}
use Rattle.metro_program.proofs.Bounded.{bounded_push, last_pushed}
use Rattle.metro_program.proofs.state.ReplayState.change.Goals as goal

pub invariant_of-self-in-Continue-branch-2 : goal.invariant_of-self-in-Continue-branch-2
invariant_of-self-in-Continue-branch-2 c =
    let s : State = record { ask = c.self.inside.ask; files = c.self.inside.files; journal = c.self.inside.journal; numbering = c.self.inside.numbering; latest = c.self.inside.latest; refusal = c.self.inside.refusal } in
    let journal : c.push.new.self ≡ s.journal ++ c.args.change ∷ [] = search rules in
    let same : c.in-Some.change.now ≡ c.args.change = last_pushed s.journal c.as_slice.result.now c.args.change c.in-Some.change.now (c.as_slice.ensures.changes ∙ journal) (ap option_copied (sym c.in-Some.is) ∙ c.last.ensures.value) in
    let files : c.apply.new.self ≡ stepped s.files c.args.change = c.in_ok-apply.ensures.ok ∙ ap (stepped s.files) same in
    bounded_push s c.args.change c.apply.new.self c.push.new.self c.self.invariant journal (inr files)

pub invariant_of-self-in_err-apply : goal.invariant_of-self-in_err-apply
invariant_of-self-in_err-apply c =
    let s : State = record { ask = c.self.inside.ask; files = c.self.inside.files; journal = c.self.inside.journal; numbering = c.self.inside.numbering; latest = c.self.inside.latest; refusal = c.self.inside.refusal } in
    let journal : c.push.new.self ≡ s.journal ++ c.args.change ∷ [] = search rules in
    let files : c.apply.new.self ≡ s.files = search rules in
    bounded_push s c.args.change c.apply.new.self c.push.new.self c.self.invariant journal (inl files)
