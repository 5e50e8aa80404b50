use Rattle.std.proofs.Common.{◌≡◌, ◌∙◌, length, append-nil, ap, sym, subst, arith}
use Rattle.std.specs.List.{IsDistinct}
use Rattle.std.specs.Str.{bytes_eq}
use Rattle.std.specs.FinMap as map
use Rattle.std.proofs.lemmas.List.{length-map}
use Rattle.mt_revision.specs.Numberings.{with_new}
use Rattle.mt_revision.proofs.Extensions.{ascending_distinct, distinct_rest, few_left, few_rest, with_rest}
use Rattle.mt_revision.proofs.numbering.Numbering.with_keys.Goals as goal

pub loop-path-init : goal.loop-path-init
loop-path-init g c =
    let is : c.into_iter-path-iterator.result ≡ map.keys c.args.members.now = c.into_iter-path-iterator.ensures.into_iter_gives ∙ c.keys-path-items.ensures.rest in
    let many : length (map.keys c.args.members.now) ≡ map.len c.args.members.now = length-map _ _ ∙ sym (map.len-entries _) in
    let same : length c.into_iter-path-iterator.result ≡ map.len c.args.members.now = ap length is ∙ many in
    record {
      left = ap (with_new c.args.self) is;
      few = omega (arith, same);
      distinct = subst (IsDistinct bytes_eq) (sym is) (ascending_distinct (map.keys c.args.members.now) c.keys-path-items.ensures.sorted);
    }

pub with_path-requires : goal.with_path-requires
with_path-requires g c = let one = few_left c.loop-path.path-iterator c.next.new.self c.in-Some.path.now (length c.loop-path.numbering) _ _ c.in-Some.ensures.steps c.loop-path.invariant.few c.requires.few in record { few = omega (arith, one) }

pub loop-path-preserved : goal.loop-path-preserved
loop-path-preserved g c = record {
  left = with_rest c.loop-path.numbering c.in_ok-numbering.numbering c.loop-path.path-iterator c.next.new.self c.in-Some.path.now c.in-Some.ensures.steps c.loop-path.invariant.distinct c.in_ok-numbering.ensures.exact ∙ c.loop-path.invariant.left;
  few = few_rest c.loop-path.numbering c.in_ok-numbering.numbering c.loop-path.path-iterator c.next.new.self c.in-Some.path.now _ c.in-Some.ensures.steps c.in_ok-numbering.ensures.exact c.loop-path.invariant.few;
  distinct = distinct_rest c.loop-path.path-iterator c.next.new.self c.in-Some.path.now c.in-Some.ensures.steps c.loop-path.invariant.distinct;
}

pub returns-clause-exact : goal.returns-clause-exact
returns-clause-exact g c = sym (append-nil c.loop-path.numbering) ∙ ap (with_new c.loop-path.numbering) (sym c.in-None.ensures.steps.0) ∙ c.loop-path.invariant.left
