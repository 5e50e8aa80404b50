use Rattle.std.proofs.Common.{◌≡◌, ◌∙◌, ◌<◌, ◌++◌, ◌∷◌, [], false, ap, length, length-append, subst, sym, arith, rules}
use Rattle.std.specs.List.{IsDistinct}
use Rattle.std.specs.Str.{bytes_eq}
use Rattle.std.specs.Option.{is_some}
use Rattle.std.specs.FinMap.{get}
use Rattle.mt_revision.specs.Numberings.{has_path, with_new}
use Rattle.mt_revision.proofs.Extensions.{number_added, number_is, pushed_distinct, with_old, with_one}
use Rattle.mt_revision.proofs.numbering.Numbering.with_path.Goals as goal

pub returns-then-contains : goal.returns-then-contains
returns-then-contains c =
    let there = sym (number_is c.self.inside.paths c.args.path.now c.self.inside.numbers c.self.invariant.1) ∙ sym c.if-contains.ensures.has in
    let same = with_old c.self.inside.paths c.args.path.now there in
    record { exact = sym (subst (λ ps. with_new ps (c.args.path.now ∷ []) ≡ ps) c.self.view_is same) }

pub invariant_of-result : goal.invariant_of-result
invariant_of-result c =
    let none : is_some (get c.self.inside.numbers c.args.path.now) ≡ false = sym c.if-contains.ensures.has in
    let out : has_path c.self.inside.paths c.args.path.now ≡ false = sym (number_is c.self.inside.paths c.args.path.now c.self.inside.numbers c.self.invariant.1) ∙ none in
    let copy : c.in_ok-clone-2.field-0 ≡ c.args.path.now = search rules in
    let more : c.push.new.self ≡ c.self.inside.paths ++ c.args.path.now ∷ [] = c.in_ok-push.ensures.ok ∙ ap (λ p. c.self.inside.paths ++ p ∷ []) copy in
    let longer : length c.push.new.self ≡ length (c.self.inside.paths ++ c.args.path.now ∷ []) = ap length more in
    let one = length-append c.self.inside.paths (c.args.path.now ∷ []) in
    let same : length c.self.inside.paths ≡ length c.args.self = ap length c.self.view_is in
    let few : length c.args.self < 4294967294 = c.requires.few in (
      subst (IsDistinct bytes_eq) (sym more) (pushed_distinct c.self.inside.paths c.args.path.now out c.self.invariant.0),
      number_added c.self.inside.paths c.args.path.now c.in_ok-clone.field-0 c.in_ok-clone-2.field-0 _ c.self.inside.numbers c.insert.new.self c.push.new.self c.self.invariant.1 none
          (search rules) copy (search rules) c.in_ok-insert.ensures.ok c.in_ok-push.ensures.ok,
      omega (arith, longer, one, same, few),
    )

pub returns : goal.returns
returns c =
    let none : is_some (get c.self.inside.numbers c.args.path.now) ≡ false = sym c.if-contains.ensures.has in
    let out : has_path c.self.inside.paths c.args.path.now ≡ false = sym (number_is c.self.inside.paths c.args.path.now c.self.inside.numbers c.self.invariant.1) ∙ none in
    let copy : c.in_ok-clone-2.field-0 ≡ c.args.path.now = search rules in
    record { exact = c.in_ok-push.ensures.ok ∙ ap (λ p. c.self.inside.paths ++ p ∷ []) copy ∙ sym (with_one c.self.inside.paths c.args.path.now out) ∙ ap (λ ps. with_new ps (c.args.path.now ∷ [])) c.self.view_is }
