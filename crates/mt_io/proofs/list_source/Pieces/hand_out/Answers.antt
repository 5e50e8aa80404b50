use Rattle.std.proofs.Common.{◌≡◌, ℕ, ◌+◌, List, [], ◌++◌, get_or, take, drop, ap, sym, ◌∙◌, length, min, arith}
use Rattle.mt_io.specs.Memory.{PieceReading, give, given_at, left_at, next_piece, unspent, without}
use Rattle.mt_io.proofs.Readings.{first_left, given_on, left_on}
use Rattle.mt_io.proofs.list_source.Pieces.hand_out.Goals as goal

same_pieces : (r s : PieceReading) → r.given ≡ s.given → r.pieces ≡ s.pieces → r ≡ s
same_pieces r s given left =
    let fill : List ℕ → List (List ℕ) → PieceReading = λ (a : List ℕ). λ (b : List (List ℕ)). record { given = a; pieces = b } in
    ap (λ (a : List ℕ). fill a r.pieces) given ∙ ap (λ (b : List (List ℕ)). fill s.given b) left

-- the piece that is next is the rest of the piece at a place that was found
next_is : (r : PieceReading) (list : List (List ℕ)) (piece at : ℕ) → left_at list piece at ≡ unspent r.pieces → drop at (get_or list piece []) ≡ next_piece r.pieces
next_is r list piece at left = sym (first_left list piece at) ∙ ap (λ (ps : List (List ℕ)). get_or ps 0 []) left

-- so many bytes further in that piece
on : (r : PieceReading) (list : List (List ℕ)) (piece at n : ℕ) → given_at list piece at ≡ r.given → left_at list piece at ≡ unspent r.pieces → record { given = given_at list piece (at + n); pieces = left_at list piece (at + n) } ≡ give n r
on r list piece at n given left =
    same_pieces _ (give n r)
    (given_on list piece at n ∙ ap (λ (xs : List ℕ). xs ++ take n (drop at (get_or list piece []))) given ∙ ap (λ (xs : List ℕ). r.given ++ take n xs) (next_is r list piece at left))
    (left_on list piece at n ∙ ap (without n) left)

pub returns : goal.returns
returns c =
    let list = c.self.inside.list.items in
    let piece = c.next_place.result.0 in
    let at = c.next_place.result.1 in
    let given : given_at list piece at ≡ c.args.self.now.given = (rw c.as_slice.ensures.value at c.next_place.ensures.given) ∙ ap (λ (r : PieceReading). r.given) c.self.view_is in
    let left : left_at list piece at ≡ unspent c.args.self.now.pieces = (rw c.as_slice.ensures.value at c.next_place.ensures.left) ∙ ap (λ (r : PieceReading). unspent r.pieces) c.self.view_is in
    let next : c.rest_of_piece-rest.result.now ≡ next_piece c.args.self.now.pieces = c.rest_of_piece-rest.ensures.rest ∙ ap (λ (xs : List (List ℕ)). drop at (get_or xs piece [])) c.as_slice-2.ensures.value ∙ next_is c.args.self.now list piece at left in
    record {
      count = c.copy_front-count.ensures.count ∙ ap (λ (xs : List ℕ). min (length xs) (length c.args.into.now)) next ∙ omega arith;
      written = c.copy_front-count.ensures.copied ∙ ap (λ (xs : List ℕ). take c.copy_front-count.result xs ++ drop c.copy_front-count.result c.args.into.now) next;
      given = on c.args.self.now list piece at c.copy_front-count.result given left;
    }
