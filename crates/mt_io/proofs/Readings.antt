-- The reading of pieces at a place, and how it goes on.
use Rattle.std.proofs.Common.{◌≡◌, Ok, Some, min, length-take, ℕ, ◌+◌, ◌<◌, ◌≤◌, List, [], ◌∷◌, ◌++◌, length, get_or, take, drop, refl, ap, sym, subst, ◌∙◌, append-nil, append_assoc, length-drop, length-append, arith, take_all, inl, inr}
use Rattle.std.proofs.Math.Seq.{take-add}
use Rattle.std.proofs.lemmas.List.{take_more, drop_more, take-append-le, drop-append-le, drop-drop, drop_all, get_or_past}
use Rattle.std.proofs.lemmas.Bool.{cases_lt}
use Rattle.std.proofs.lemmas.List.Folds.{concat-append}
use Rattle.std.specs.List.{concat}
use Rattle.mt_io.specs.Seen.{Reads, Seen, Tells}
use Rattle.mt_io.specs.Told.{Reading, read_on}
use Rattle.mt_io.specs.Memory.{PieceReading, give, given_at, joined, left_at, next_piece, unspent, without}

-- two readings of one content are one
pub same_reading : (r s : Reading) → r.given ≡ s.given → r.left ≡ s.left → r ≡ s
same_reading r s given left =
    let fill : List ℕ → List ℕ → Reading = λ (a : List ℕ). λ (b : List ℕ). record { given = a; left = b } in
    ap (λ (a : List ℕ). fill a r.left) given ∙ ap (λ (b : List ℕ). fill s.given b) left

-- no bytes on
pub reading_still : (r : Reading) → r ≡ read_on 0 r
reading_still r = same_reading r (read_on 0 r) (sym (append-nil r.given)) refl

-- ---- the pieces that are left

-- pieces without a byte at the front add nothing to what is left
concat_unspent : (pieces : List (List ℕ)) → concat (unspent pieces) ≡ concat pieces
concat_unspent [] = refl
concat_unspent ([] ∷ pieces) = concat_unspent pieces
concat_unspent ((b ∷ bs) ∷ pieces) = refl

-- what is left begins with the piece that is next
pub left_begins : (pieces : List (List ℕ)) → concat pieces ≡ next_piece pieces ++ concat (drop 1 (unspent pieces))
left_begins [] = refl
left_begins ([] ∷ pieces) = left_begins pieces
left_begins ((b ∷ bs) ∷ pieces) = refl

-- where the piece that is next is empty, nothing is left
pub none_left : (pieces : List (List ℕ)) → length (next_piece pieces) ≡ 0 → concat pieces ≡ []
none_left [] h = refl
none_left ([] ∷ pieces) h = none_left pieces h
none_left ((b ∷ bs) ∷ pieces) h = absurd (omega (arith, h))

concat_without : (n : ℕ) (pieces : List (List ℕ)) → n ≤ length (get_or pieces 0 []) → concat (without n pieces) ≡ drop n (concat pieces)
concat_without n [] h = sym (drop_all n [] (omega arith))
concat_without n (piece ∷ pieces) h = sym (drop-append-le n piece (concat pieces) h)

-- a read from pieces is one from what they join to
pub joined_give : (n : ℕ) (r : PieceReading) → n ≤ length (next_piece r.pieces) → joined (give n r) ≡ read_on n (joined r)
joined_give n r h =
    same_reading (joined (give n r)) (read_on n (joined r))
    (ap (λ (xs : List ℕ). r.given ++ xs) (sym (ap (take n) (left_begins r.pieces) ∙ take-append-le n (next_piece r.pieces) (concat (drop 1 (unspent r.pieces))) h)))
    (concat_without n (unspent r.pieces) h ∙ ap (drop n) (concat_unspent r.pieces))

-- the bytes that are given are the first that are left
pub taken_next : (n : ℕ) (pieces : List (List ℕ)) → n ≤ length (next_piece pieces) → take n (next_piece pieces) ≡ take n (concat pieces)
taken_next n pieces h = sym (ap (take n) (left_begins pieces) ∙ take-append-le n (next_piece pieces) (concat (drop 1 (unspent pieces))) h)

-- and there are so many of them
pub enough_left : (n : ℕ) (pieces : List (List ℕ)) → n ≤ length (next_piece pieces) → n ≤ length (concat pieces)
enough_left n pieces h = omega (arith, h, ap length (left_begins pieces), length-append (next_piece pieces) (concat (drop 1 (unspent pieces))))

front_of : (n : ℕ) (xs ys : List ℕ) → n ≤ length xs → take n (take n xs ++ ys) ≡ take n xs
front_of n xs ys h =
    let len : n ≡ length (take n xs) = omega (arith, length-take n xs) in
    take-append-le n (take n xs) ys (omega (arith, len)) ∙ take_all n (take n xs) (omega (arith, len))

-- a read of what fits of the piece that is next is a read as a source does it
pub reads_piece :
    {E : Type 0} (before after : Seen Reading) (r : PieceReading) (into now : List ℕ) (n : ℕ) → Tells before (joined r) → Tells after (joined (give n r))
    → n ≡ min (length into) (length (next_piece r.pieces)) → now ≡ take n (next_piece r.pieces) ++ drop n into
    → before.faults ≤ after.faults → after.beside ≡ before.beside → Reads {E = E} before after into now (Ok n)
reads_piece before after r into now n told then count written later apart =
    let fits : n ≤ length (next_piece r.pieces) = omega (arith, count) in
    let is : (q : Reading) → Tells before q → joined r ≡ q = λ q e. let h : Some (joined r) ≡ Some q = sym told ∙ e in cc in
    record {
      within = omega (arith, count);
      enough = λ q e. subst (λ (z : Reading). n ≤ length z.left) (is q e) (enough_left n r.pieces fits);
      written = λ q e. ap (take n) written ∙ front_of n (next_piece r.pieces) (drop n into) fits ∙ taken_next n r.pieces fits ∙ ap (λ (z : Reading). take n z.left) (is q e);
      given = λ q e. then ∙ ap Some (joined_give n r fits ∙ ap (read_on n) (is q e));
      end = λ q e some none. sym (ap (λ (z : Reading). z.left) (is q e)) ∙ none_left r.pieces (omega (arith, count, some, none));
      err = tt;
      cause = tt;
      later = later;
      apart = apart;
    }

-- ---- a place in pieces

-- the end of a piece is the start of the next
pub given_spent : (pieces : List (List ℕ)) (piece at : ℕ) → piece < length pieces → at ≡ length (get_or pieces piece []) → given_at pieces (piece + 1) 0 ≡ given_at pieces piece at
given_spent pieces piece at h e =
    append-nil _ ∙ ap concat (take_more pieces piece [] h) ∙ concat-append (take piece pieces) (get_or pieces piece [] ∷ []) ∙ ap (λ (xs : List ℕ). concat (take piece pieces) ++ xs) (append-nil (get_or pieces piece []) ∙ sym (take_all at (get_or pieces piece []) (omega (arith, e))))

none_unspent : (n : ℕ) (piece : List ℕ) (pieces : List (List ℕ)) → n ≡ length piece → unspent (drop n piece ∷ pieces) ≡ unspent pieces
none_unspent n piece pieces e = rw (drop_all n piece (omega (arith, e))) refl

without_none : (pieces : List (List ℕ)) → without 0 pieces ≡ pieces
without_none [] = refl
without_none (piece ∷ pieces) = refl

pub left_spent : (pieces : List (List ℕ)) (piece at : ℕ) → piece < length pieces → at ≡ length (get_or pieces piece []) → unspent (left_at pieces (piece + 1) 0) ≡ unspent (left_at pieces piece at)
left_spent pieces piece at h e =
    ap unspent (without_none (drop (piece + 1) pieces))
    ∙ sym (ap (λ (ps : List (List ℕ)). unspent (without at ps)) (drop_more pieces piece [] h) ∙ none_unspent at (get_or pieces piece []) (drop (piece + 1) pieces) e)

some_unspent : (n : ℕ) (piece : List ℕ) (pieces : List (List ℕ)) → n < length piece → unspent (drop n piece ∷ pieces) ≡ drop n piece ∷ pieces
some_unspent n piece pieces h = some (drop n piece) (omega (arith, h, length-drop n piece)) where
  some : (p : List ℕ) → 0 < length p → unspent (p ∷ pieces) ≡ p ∷ pieces
  some [] h = absurd (omega (arith, h))
  some (b ∷ bs) h = refl

-- at a place with a byte, and past the last piece, no piece is spent
pub left_unspent : (pieces : List (List ℕ)) (piece at : ℕ) → (piece < length pieces → at < length (get_or pieces piece [])) → unspent (left_at pieces piece at) ≡ left_at pieces piece at
left_unspent pieces piece at more =
    elim (cases_lt piece (length pieces)) [
      | inl inside ↦
          let is = ap (without at) (drop_more pieces piece [] inside) in
          ap unspent is ∙ some_unspent at (get_or pieces piece []) (drop (piece + 1) pieces) (more inside) ∙ sym is
      | inr past ↦ let is = ap (without at) (drop_all piece pieces past) in ap unspent is ∙ sym is
    ]

-- the first of the pieces that are left is the rest of the piece
pub first_left : (pieces : List (List ℕ)) (piece at : ℕ) → get_or (left_at pieces piece at) 0 [] ≡ drop at (get_or pieces piece [])
first_left pieces piece at =
    elim (cases_lt piece (length pieces)) [
      | inl inside ↦ ap (λ (ps : List (List ℕ)). get_or (without at ps) 0 []) (drop_more pieces piece [] inside)
      | inr past ↦ ap (λ (ps : List (List ℕ)). get_or (without at ps) 0 []) (drop_all piece pieces past) ∙ sym (ap (drop at) (get_or_past pieces piece [] past) ∙ drop_all at [] (omega arith))
    ]

without_twice : (n at : ℕ) (pieces : List (List ℕ)) → without (at + n) pieces ≡ without n (without at pieces)
without_twice n at [] = refl
without_twice n at (piece ∷ pieces) = ap (λ (xs : List ℕ). xs ∷ pieces) (sym (drop-drop n at piece))

-- so many bytes further in the piece
pub given_on : (pieces : List (List ℕ)) (piece at n : ℕ) → given_at pieces piece (at + n) ≡ given_at pieces piece at ++ take n (drop at (get_or pieces piece []))
given_on pieces piece at n =
    ap (λ (xs : List ℕ). concat (take piece pieces) ++ xs) (take-add at n (get_or pieces piece [])) ∙ sym (append_assoc (concat (take piece pieces)) (take at (get_or pieces piece [])) (take n (drop at (get_or pieces piece []))))

pub left_on : (pieces : List (List ℕ)) (piece at n : ℕ) → left_at pieces piece (at + n) ≡ without n (left_at pieces piece at)
left_on pieces piece at n = without_twice n at (drop piece pieces)
