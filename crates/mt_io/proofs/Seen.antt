-- Calls on a sink one after another, by the facts of `specs/Seen.antt`. A function names the laws that it needs in
-- `#[tactic(auto, using(..))]`: `wrote_then`, `stopped_more` and `stopped_then` for pieces that are written one after
-- another, `stopped_none` where an answer comes before the first write.
use Rattle.std.proofs.Common.{◌≡◌, ◌≤◌, ◌+◌, ℕ, List, [], ◌++◌, length, take, drop, get_or, ◌∷◌, ◌<◌, refl, ap, sym, subst, ◌∙◌, take_all, append-nil}
use Rattle.std.specs.List.{flat_map}
use Rattle.std.proofs.lemmas.List.{take-append-drop, take_more}
use Rattle.std.proofs.lemmas.Grind.{flat_map-append}
use Rattle.mt_io.specs.Seen.{Seen, Wrote, Stopped, Missed}
use Rattle.mt_io.specs.Told.{Grows, GrowsByPrefix}
use Rattle.mt_io.proofs.Growth.{grows_more, grows_none, grows_then, part_all, part_more, part_none, part_then}

-- nothing was written
pub wrote_none : (a : Seen (List ℕ)) → Wrote a a []
unfolding Wrote
wrote_none a = (grows_none a.told, refl)

-- one piece after another
pub wrote_then : (a b c : Seen (List ℕ)) (xs ys : List ℕ) → Wrote a b xs → Wrote b c ys → Wrote a c (xs ++ ys)
unfolding Wrote
wrote_then a b c xs ys p q = (grows_then a.told b.told c.told xs ys p.0 q.0, q.1 ∙ p.1)

-- some of the bytes, and then more of them
pub wrote_more : (a b c : Seen (List ℕ)) (bytes rest : List ℕ) (i n : ℕ) → Wrote a b (take i bytes) → Wrote b c (take n rest) → rest ≡ drop i bytes → Wrote a c (take (i + n) bytes)
unfolding Wrote
wrote_more a b c bytes rest i n p q e = (grows_more a.told b.told c.told bytes i n p.0 (rw e at q.0), q.1 ∙ p.1)

-- all of the bytes
pub wrote_whole : (a b : Seen (List ℕ)) (bytes : List ℕ) (i : ℕ) → Wrote a b (take i bytes) → length bytes ≤ i → Wrote a b bytes
wrote_whole a b bytes i p h = subst (Wrote a b) (take_all i bytes h) p

-- it stopped before the first byte
pub stopped_none : (a : Seen (List ℕ)) (bytes : List ℕ) → Stopped a a bytes
unfolding Stopped
stopped_none a bytes = (part_none a.told bytes, refl)

-- what was written is a prefix
pub stopped_all : (a b : Seen (List ℕ)) (bytes : List ℕ) → Wrote a b bytes → Stopped a b bytes
unfolding Wrote Stopped
stopped_all a b bytes p = (part_all a.told b.told bytes p.0, p.1)

-- some of the bytes, and then none
pub stopped_at : (a b c : Seen (List ℕ)) (bytes : List ℕ) (i : ℕ) → Wrote a b (take i bytes) → Missed b c → Stopped a c bytes
unfolding Wrote Missed Stopped
stopped_at a b c bytes i p q = (record { front = take i bytes; rest = drop i bytes; joined = take-append-drop i bytes; grown = q.0 ∙ p.0 }, q.1 ∙ p.1)

-- it stopped, and more was to come
pub stopped_more : (a b : Seen (List ℕ)) (xs ys : List ℕ) → Stopped a b xs → Stopped a b (xs ++ ys)
unfolding Stopped
stopped_more a b xs ys p = (part_more a.told b.told xs ys p.0, p.1)

-- a whole piece, and it stopped in the next
pub stopped_then : (a b c : Seen (List ℕ)) (xs ys : List ℕ) → Wrote a b xs → Stopped b c ys → Stopped a c (xs ++ ys)
unfolding Wrote Stopped
stopped_then a b c xs ys p q = (part_then a.told b.told c.told xs ys p.0 q.0, q.1 ∙ p.1)

-- ---- in the words of what is told

-- what is told grew by what was written
pub wrote_grows : (a b : Seen (List ℕ)) (bytes : List ℕ) → Wrote a b bytes → Grows a.told b.told bytes
unfolding Wrote
wrote_grows a b bytes p = p.0

pub wrote_apart : (a b : Seen (List ℕ)) (bytes : List ℕ) → Wrote a b bytes → b.beside ≡ a.beside
unfolding Wrote
wrote_apart a b bytes p = p.1

-- what is told grew by a prefix of what was to be written
pub stopped_grows : (a b : Seen (List ℕ)) (bytes : List ℕ) → Stopped a b bytes → GrowsByPrefix a.told b.told bytes
unfolding Stopped
stopped_grows a b bytes p = p.0

pub stopped_apart : (a b : Seen (List ℕ)) (bytes : List ℕ) → Stopped a b bytes → b.beside ≡ a.beside
unfolding Stopped
stopped_apart a b bytes p = p.1

-- ---- the texts of the elements of a list, one after another

module _ {X : Type 0} (f : X → List ℕ) where
  more : (xs : List X) (i : ℕ) (x : X) → i < length xs → flat_map f (take (i + 1) xs) ≡ flat_map f (take i xs) ++ f (get_or xs i x)
  more xs i x h = ap (flat_map f) (take_more xs i x h) ∙ flat_map-append f (take i xs) (get_or xs i x ∷ []) ∙ ap (λ z. flat_map f (take i xs) ++ z) (append-nil (f (get_or xs i x)))

  -- those of the elements so far, and of one more
  pub wrote_each :
      (a b c : Seen (List ℕ)) (xs : List X) (i : ℕ) (x y : X)
      → Wrote a b (flat_map f (take i xs)) → Wrote b c (f y) → i < length xs → y ≡ get_or xs i x → Wrote a c (flat_map f (take (i + 1) xs))
  wrote_each a b c xs i x y p q h is = subst (Wrote a c) (ap (λ z. flat_map f (take i xs) ++ f z) is ∙ sym (more xs i x h)) (wrote_then a b c (flat_map f (take i xs)) (f y) p q)

  -- those of the elements so far, and it stopped in the next
  pub stopped_each :
      (a b c : Seen (List ℕ)) (xs : List X) (i : ℕ) (x y : X)
      → Wrote a b (flat_map f (take i xs)) → Stopped b c (f y) → i < length xs → y ≡ get_or xs i x → Stopped a c (flat_map f xs)
  stopped_each a b c xs i x y p q h is =
      let part = stopped_then a b c (flat_map f (take i xs)) (f y) p q in
      let e = ap (λ z. flat_map f (take i xs) ++ f z) is ∙ sym (more xs i x h) in
      let all = stopped_more a c (flat_map f (take (i + 1) xs)) (flat_map f (drop (i + 1) xs)) (subst (Stopped a c) e part) in
      subst (Stopped a c) (sym (flat_map-append f (take (i + 1) xs) (drop (i + 1) xs)) ∙ ap (flat_map f) (take-append-drop (i + 1) xs)) all

  -- those of all elements
  pub wrote_all : (a b : Seen (List ℕ)) (xs : List X) (i : ℕ) → Wrote a b (flat_map f (take i xs)) → length xs ≤ i → Wrote a b (flat_map f xs)
  wrote_all a b xs i p h = subst (Wrote a b) (ap (flat_map f) (take_all i xs h)) p
