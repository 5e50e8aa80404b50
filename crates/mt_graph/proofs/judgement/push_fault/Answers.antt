use Rattle.std.proofs.Common.{◌≡◌, ◌++◌, ◌∙◌, OnOk, slice_index, ap, sym, subst}
use Rattle.std.specs.List.{slice_get}
use Rattle.mt_graph.proofs.LinkFaults.{fault_found, no_link, no_name}
use Rattle.mt_graph.proofs.judgement.push_fault.Goals as goal

pub returns-in_default : goal.returns-in_default
returns-in_default c = record { ok = no_name c.args.path.now c.args.output.now c.args.links.now c.args.i c.args.faults.now (ap (λ xs. slice_get xs c.args.i) (sym c.names.ensures.value) ∙ sym c.in_default.ensures.item) }

pub returns-in_default-get : goal.returns-in_default-get
returns-in_default-get c = record { ok = no_link c.args.path.now c.args.output.now c.args.links.now c.args.i c.args.faults.now (sym c.in_default-get.ensures.item) }

pub returns : goal.returns
returns c = record {
  ok = subst (λ fs. OnOk c.append.result (c.append.new.self ≡ c.args.faults.now ++ fs))
      (fault_found c.args.path.now c.args.output.now c.args.links.now c.args.i c.place_at-place.result c.in-Some.name.now c.in-Some-get.link.now c.in_ok-fault_of_target.field-0
      (ap (λ xs. slice_get xs c.args.i) (sym c.names.ensures.value) ∙ sym c.in-Some.ensures.item)
      (sym c.in-Some-get.ensures.item)
      (c.place_at-place.ensures.exact ∙ ap (λ ps. slice_index ps c.args.i) c.requires.places)
      (rw c.deref.ensures.value at c.in_ok-fault_of_target.ensures.exact))
      c.append.ensures.ok;
}
