-- Told bytes that grow piece by piece. A function that sends pieces one after another names the laws that it needs in
-- `#[tactic(auto, using(..))]`: `grows_then` for all of them; `part_all`, `part_more` and `part_then` for a part, where
-- a piece failed; `part_more_twice` and `part_then_more` where two pieces, or one, were still to come.
use Rattle.std.proofs.Common.{◌≡◌, ℕ, ◌+◌, List, [], ◌++◌, append-nil, take, drop, Option, Some, None, append_assoc, refl, ap, ◌∙◌, sym}
use Rattle.std.proofs.Math.Seq.{take-add}
use Rattle.mt_io.specs.Told.{Grows, GrowsByPrefix}

-- a prefix, and then some of the rest
pub grows_more : (a b c : Option (List ℕ)) (bytes : List ℕ) (i n : ℕ) → Grows a b (take i bytes) → Grows b c (take n (drop i bytes)) → Grows a c (take (i + n) bytes)
grows_more None b c bytes i n p q = rw p at q
grows_more (Some xs) b c bytes i n p q =
    let r : c ≡ Some ((xs ++ take i bytes) ++ take n (drop i bytes)) = rw p at q in
    r ∙ ap Some (append_assoc xs (take i bytes) (take n (drop i bytes)) ∙ ap (λ z. xs ++ z) (sym (take-add i n bytes)))

-- nothing grew
pub grows_none : (a : Option (List ℕ)) → Grows a a []
grows_none None = refl
grows_none (Some xs) = ap Some (sym (append-nil xs))

-- one growth after another
pub grows_then : (a b c : Option (List ℕ)) (xs ys : List ℕ) → Grows a b xs → Grows b c ys → Grows a c (xs ++ ys)
grows_then None b c xs ys p q = rw p at q
grows_then (Some zs) b c xs ys p q =
    let r : c ≡ Some ((zs ++ xs) ++ ys) = rw p at q in
    r ∙ ap Some (append_assoc zs xs ys)

-- nothing is a prefix
pub part_none : (a : Option (List ℕ)) (bytes : List ℕ) → GrowsByPrefix a a bytes
part_none a bytes = record { front = []; rest = bytes; joined = refl; grown = grows_none a }

-- all is a prefix
pub part_all : (a b : Option (List ℕ)) (bytes : List ℕ) → Grows a b bytes → GrowsByPrefix a b bytes
part_all a b bytes h = record { front = bytes; rest = []; joined = append-nil bytes; grown = h }

-- a prefix of a piece is one of that piece and more
pub part_more : (a b : Option (List ℕ)) (xs ys : List ℕ) → GrowsByPrefix a b xs → GrowsByPrefix a b (xs ++ ys)
part_more a b xs ys h = record {
  front = h.front;
  rest = h.rest ++ ys;
  joined = sym (append_assoc h.front h.rest ys) ∙ ap (λ z. z ++ ys) h.joined;
  grown = h.grown;
}

-- a whole piece, and then a prefix of the next
pub part_then : (a b c : Option (List ℕ)) (xs ys : List ℕ) → Grows a b xs → GrowsByPrefix b c ys → GrowsByPrefix a c (xs ++ ys)
part_then a b c xs ys p h = record {
  front = xs ++ h.front;
  rest = h.rest;
  joined = append_assoc xs h.front h.rest ∙ ap (λ z. xs ++ z) h.joined;
  grown = grows_then a b c xs h.front p h.grown;
}

-- a prefix of a piece is one of that piece and two more
pub part_more_twice : (a b : Option (List ℕ)) (xs ys zs : List ℕ) → GrowsByPrefix a b xs → GrowsByPrefix a b (xs ++ ys ++ zs)
part_more_twice a b xs ys zs h = part_more a b (xs ++ ys) zs (part_more a b xs ys h)

-- a whole piece, and then a prefix of the next, where more was to come
pub part_then_more : (a b c : Option (List ℕ)) (xs ys zs : List ℕ) → Grows a b xs → GrowsByPrefix b c ys → GrowsByPrefix a c (xs ++ ys ++ zs)
part_then_more a b c xs ys zs p h = part_more a c (xs ++ ys) zs (part_then a b c xs ys p h)
