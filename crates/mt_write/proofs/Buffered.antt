-- Pieces that go through a write buffer one after another. A function names the laws that it needs in
-- `#[tactic(auto, using(..))]`.
use Rattle.std.proofs.Common.{◌≡◌, ◌∷◌, get_or, ◌<◌, ◌≤◌, ◌+◌, ℕ, List, [], ◌++◌, length, take, drop, ap, sym, ◌∙◌, subst, take_all, append-nil, append_assoc}
use Rattle.std.specs.List.{flat_map}
use Rattle.std.proofs.lemmas.List.{take-append-drop, take_more}
use Rattle.std.proofs.lemmas.Grind.{flat_map-append}
use Rattle.mt_io.specs.Seen.{Seen, Stopped, Wrote}
use Rattle.mt_io.proofs.Seen.{stopped_more, stopped_then, wrote_none, wrote_then}
use Rattle.mt_write.specs.Buffered.{Buffered}

-- nothing came
pub buffered_none : (a : Seen (List ℕ)) (k : List ℕ) → Buffered a a k [] k
unfolding Buffered
buffered_none a k = ([], sym (append-nil k), wrote_none a)

-- the bytes are held
pub buffered_held : (a : Seen (List ℕ)) (k xs l : List ℕ) → l ≡ k ++ xs → Buffered a a k xs l
unfolding Buffered
buffered_held a k xs l h = ([], h, wrote_none a)

-- what was held was written, and the bytes are held
pub buffered_flushed : (a b : Seen (List ℕ)) (k xs l : List ℕ) → Wrote a b k → l ≡ xs → Buffered a b k xs l
unfolding Buffered
buffered_flushed a b k xs l p h = (k, ap (λ z. k ++ z) h, p)

-- what was held was written, and the bytes too
pub buffered_sent : (a b c : Seen (List ℕ)) (k xs l : List ℕ) → Wrote a b k → Wrote b c xs → l ≡ [] → Buffered a c k xs l
unfolding Buffered
buffered_sent a b c k xs l p q h = (k ++ xs, ap (λ z. (k ++ xs) ++ z) h ∙ append-nil (k ++ xs), wrote_then a b c k xs p q)

-- one piece after another
pub buffered_then : (a b c : Seen (List ℕ)) (k l m xs ys : List ℕ) → Buffered a b k xs l → Buffered b c l ys m → Buffered a c k (xs ++ ys) m
unfolding Buffered
buffered_then a b c k l m xs ys p q =
    (p.0 ++ q.0, append_assoc p.0 q.0 m ∙ ap (λ z. p.0 ++ z) q.1 ∙ sym (append_assoc p.0 l ys) ∙ ap (λ z. z ++ ys) p.1 ∙ append_assoc k xs ys, wrote_then a b c p.0 q.0 p.2 q.2)

-- a whole piece, and it stopped in the next
pub buffer_stopped : (a b c : Seen (List ℕ)) (k l xs ys : List ℕ) → Buffered a b k xs l → Stopped b c (l ++ ys) → Stopped a c (k ++ (xs ++ ys))
unfolding Buffered
buffer_stopped a b c k l xs ys p q =
    subst (Stopped a c) (sym (append_assoc p.0 l ys) ∙ ap (λ z. z ++ ys) p.1 ∙ append_assoc k xs ys) (stopped_then a b c p.0 (l ++ ys) p.2 q)

-- it stopped, and more was to come
pub buffer_stopped_more : (a b : Seen (List ℕ)) (k xs ys : List ℕ) → Stopped a b (k ++ xs) → Stopped a b (k ++ (xs ++ ys))
buffer_stopped_more a b k xs ys p = subst (Stopped a b) (append_assoc k xs ys) (stopped_more a b (k ++ xs) ys p)

-- in other words
pub buffered_as : (a b : Seen (List ℕ)) (k l xs ys : List ℕ) → Buffered a b k xs l → xs ≡ ys → Buffered a b k ys l
buffered_as a b k l xs ys p e = subst (λ z. Buffered a b k z l) e p

-- some pieces, and it stopped in the next, with so much more to come
pub buffer_stopped_at :
    (a b c : Seen (List ℕ)) (k l xs ys rest total : List ℕ) → Buffered a b k xs l → Stopped b c (l ++ ys) → (xs ++ ys) ++ rest ≡ total → Stopped a c (k ++ total)
buffer_stopped_at a b c k l xs ys rest total p q e = subst (λ z. Stopped a c (k ++ z)) e (buffer_stopped_more a c k (xs ++ ys) rest (buffer_stopped a b c k l xs ys p q))

-- ---- from an empty buffer

-- what was put into an empty buffer, and then what it held was written
pub wrote_all : (a b c : Seen (List ℕ)) (k l xs : List ℕ) → k ≡ [] → Buffered a b k xs l → Wrote b c l → Wrote a c xs
unfolding Buffered
wrote_all a b c k l xs e p q = subst (Wrote a c) (p.1 ∙ ap (λ z. z ++ xs) e) (wrote_then a b c p.0 l p.2 q)

-- it stopped before all was put into an empty buffer
pub stopped_before : (a b : Seen (List ℕ)) (k xs : List ℕ) → k ≡ [] → Stopped a b (k ++ xs) → Stopped a b xs
stopped_before a b k xs e p = subst (λ z. Stopped a b (z ++ xs)) e p

-- it stopped where it wrote what the buffer held at last
pub stopped_at_last : (a b c : Seen (List ℕ)) (k l xs : List ℕ) → k ≡ [] → Buffered a b k xs l → Stopped b c l → Stopped a c xs
unfolding Buffered
stopped_at_last a b c k l xs e p q = subst (Stopped a c) (p.1 ∙ ap (λ z. z ++ xs) e) (stopped_then a b c p.0 l p.2 q)

-- ---- the texts of the elements of a list, one after another

module _ {X : Type 0} (f : X → List ℕ) where
  more : (xs : List X) (i : ℕ) (x : X) → i < length xs → flat_map f (take (i + 1) xs) ≡ flat_map f (take i xs) ++ f (get_or xs i x)
  more xs i x h = ap (flat_map f) (take_more xs i x h) ∙ flat_map-append f (take i xs) (get_or xs i x ∷ []) ∙ ap (λ z. flat_map f (take i xs) ++ z) (append-nil (f (get_or xs i x)))

  -- those of the elements so far, and of one more
  pub buffered_each :
      (a b c : Seen (List ℕ)) (k l m : List ℕ) (xs : List X) (i : ℕ) (x y : X) → i < length xs → y ≡ get_or xs i x
      → Buffered a b k (flat_map f (take i xs)) l → Buffered b c l (f y) m → Buffered a c k (flat_map f (take (i + 1) xs)) m
  buffered_each a b c k l m xs i x y inside is p q =
      buffered_as a c k m _ _ (buffered_then a b c k l m (flat_map f (take i xs)) (f y) p q) (ap (λ z. flat_map f (take i xs) ++ f z) is ∙ sym (more xs i x inside))

  -- those of the elements so far, and it stopped in the next
  pub buffer_stopped_each :
      (a b c : Seen (List ℕ)) (k l : List ℕ) (xs : List X) (i : ℕ) (x y : X) → i < length xs → y ≡ get_or xs i x
      → Buffered a b k (flat_map f (take i xs)) l → Stopped b c (l ++ f y) → Stopped a c (k ++ flat_map f xs)
  buffer_stopped_each a b c k l xs i x y inside is p q =
      buffer_stopped_at a b c k l (flat_map f (take i xs)) (f y) (flat_map f (drop (i + 1) xs)) (flat_map f xs) p q
      (ap (λ z. z ++ flat_map f (drop (i + 1) xs)) (ap (λ z. flat_map f (take i xs) ++ f z) is ∙ sym (more xs i x inside)) ∙ sym (flat_map-append f (take (i + 1) xs) (drop (i + 1) xs)) ∙ ap (flat_map f) (take-append-drop (i + 1) xs))

  -- those of all elements
  pub buffered_whole : (a b : Seen (List ℕ)) (k l : List ℕ) (xs : List X) (i : ℕ) → length xs ≤ i → Buffered a b k (flat_map f (take i xs)) l → Buffered a b k (flat_map f xs) l
  buffered_whole a b k l xs i past p = subst (λ z. Buffered a b k (flat_map f z) l) (take_all i xs past) p
