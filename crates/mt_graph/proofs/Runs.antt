-- What a loop over all items has seen.
use Rattle.std.proofs.Common.{◌≡◌, ◌<◌, ◌+◌, ◌∙◌, ℕ, Bool, true, List, [], ◌∷◌, ◌++◌, length, Option, Some, None, refl, ap, sym}
use Rattle.std.specs.List.{fold, slice_get}
use Rattle.std.specs.Option.{option_map}
use Rattle.std.specs.Iterator.{Yields}
use Rattle.std.specs.Iterator.Runs.{EveryRun, ItemsAre, Run, Trigger, YieldsRun}
use Rattle.std.proofs.lemmas.Option.{slice_get-get_or}

-- where the next call gives nothing, all items were seen
pub all_seen : {S A : Type 0} (steps : S → Option A → S → Type 0) (rest : S → List A) (s t u : S) (xs : List A) → EveryRun steps (λ p. ItemsAre p (rest p.from)) → Yields steps s xs t → steps t None u → xs ≡ rest s
unfolding Trigger YieldsRun
all_seen {S} {A} steps rest s t u xs every seen ended =
    let run : Run steps = record {
      from = s;
      items = xs;
      whole = true;
      len = length xs;
      at = slice_get xs;
      seen = tt;
      long = refl;
      reads = λ k d h. ap (option_map (λ y. y)) (slice_get-get_or xs k d h);
      gave = ((t, seen, λ w. (u, ended)), λ k. refl);
    } in
    (every run tt).4 refl

-- a fold with one more
pub fold_more : {A B : Type 0} (f : B → A → B) (b : B) (xs : List A) (x : A) → fold f b (xs ++ x ∷ []) ≡ f (fold f b xs) x
fold_more f b [] x = refl
fold_more f b (y ∷ xs) x = fold_more f (f b y) xs x
