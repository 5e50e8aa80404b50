use Rattle.std.proofs.Common.{◌≡◌, ℕ, List, ◌∷◌, Bool, false, true, refl, sym, ◌∙◌, ap}
use Rattle.std.specs.Bool.{nat_eq}
use Rattle.std.specs.List.{list_any, starts_with}
use Rattle.mt_path.specs.Children.{prefix_of}
use Rattle.mt_io.proofs.files.has_folder.Goals as goal

-- a path that doesn't begin so is passed over
passed : (f : List ℕ → Bool) (items rest : List (List ℕ)) (path : List ℕ) → items ≡ path ∷ rest → f path ≡ false → list_any f rest ≡ list_any f items
passed f items rest path e h = rw (e, h) refl

-- a path that begins so is found
met : (f : List ℕ → Bool) (items rest : List (List ℕ)) (path : List ℕ) → items ≡ path ∷ rest → f path ≡ true → true ≡ list_any f items
met f items rest path e h = rw (e, h) refl

-- what was tested, with the path and the prefix
tested : (text path found prefix : List ℕ) (b answer : Bool) → answer ≡ starts_with nat_eq text found → answer ≡ b → text ≡ path → found ≡ prefix → starts_with nat_eq path prefix ≡ b
tested text path found prefix b answer exact is one other = sym (exact ∙ ap (λ x. starts_with nat_eq x found) one ∙ ap (starts_with nat_eq path) other) ∙ is

pub loop-path-init : goal.loop-path-init
loop-path-init c = record { left = rw (c.into_iter-path-iterator.ensures.into_iter_gives, c.keys-path-items.ensures.rest) refl }

pub loop-path-preserved : goal.loop-path-preserved
loop-path-preserved c = record {
  left = passed (λ path. starts_with nat_eq path (prefix_of c.args.folder.now)) _ _ _ c.in-Some.ensures.steps
      (tested _ _ _ _ _ _ c.begins_with.ensures.exact c.if-begins_with.false c.as_str.ensures.text (c.as_str-in-loop-path.ensures.bytes ∙ c.in_ok-prefix.ensures.prefix)) ∙ c.loop-path.invariant.left;
}

pub returns-then-begins_with : goal.returns-then-begins_with
returns-then-begins_with c =
    let found = met (λ path. starts_with nat_eq path (prefix_of c.args.folder.now)) _ _ _ c.in-Some.ensures.steps
    (tested _ _ _ _ _ _ c.begins_with.ensures.exact c.if-begins_with.true c.as_str.ensures.text (c.as_str-in-loop-path.ensures.bytes ∙ c.in_ok-prefix.ensures.prefix)) ∙ c.loop-path.invariant.left in
    record { there = found ∙ sym (rw (sym c.is_root.ensures.exact ∙ c.if-is_root.false) refl) }
