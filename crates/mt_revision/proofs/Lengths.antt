-- How many touched numbers there are of each kind.
use Rattle.std.proofs.Common.{◌≡◌, ◌∙◌, ℕ, Bool, true, false, not, ◌||◌, ◌&&◌, cond, nat_eq, List, [], ◌∷◌, ◌++◌, map, filter, length, Option, Some, None, refl, ap, sym, arith}
use Rattle.std.specs.List.{list_any}
use Rattle.std.specs.Option.{is_some}
use Rattle.std.specs.Ordering.{nat_cmp}
use Rattle.std.specs.FinMap.{contains_key, entries, get, keys}
use Rattle.std.proofs.lemmas.List.Folds.{list_any-append}
use Rattle.std.proofs.lemmas.List.Kept.{IsStrictlySortedBy-filter}
use Rattle.mt_containers.proofs.Tables.{keys_sorted}
use Rattle.mt_revision.specs.Held.{ascending, delta, touched_between}
use Rattle.mt_revision.specs.Texts.{Texts, differs}
use Rattle.mt_revision.proofs.Sets.{ascending_sorted, has_ascending, has_number, has_passing, sorted_same}

either : (A B : Texts) (n : ℕ) → list_any (nat_eq n) (ascending (keys A ++ keys B)) ≡ (contains_key A n || contains_key B n)
either A B n =
    has_ascending (keys A ++ keys B) n ∙ list_any-append (nat_eq n) (keys A) (keys B)
    ∙ ap (λ b. b || list_any (nat_eq n) (keys B)) (sym (has_number A n)) ∙ ap (λ b. contains_key A n || b) (sym (has_number B n))

-- the touched numbers that pass one test are the numbers of a map that pass another
passing_same :
    (A B C : Texts) (p q : ℕ → Bool) → ((n : ℕ) → (((contains_key A n || contains_key B n) && differs (get A n) (get B n)) && p n) ≡ (contains_key C n && q n))
    → filter p (touched_between A B) ≡ filter q (keys C)
passing_same A B C p q h =
    sorted_same (filter p (touched_between A B)) (filter q (keys C))
    (IsStrictlySortedBy-filter nat_cmp p (touched_between A B) (IsStrictlySortedBy-filter nat_cmp (λ n. differs (get A n) (get B n)) (ascending (keys A ++ keys B)) (ascending_sorted (keys A ++ keys B))))
    (IsStrictlySortedBy-filter nat_cmp q (keys C) (keys_sorted nat_cmp C))
    (λ n.
    has_passing p (touched_between A B) n
    ∙ ap (λ b. b && p n) (has_passing (λ k. differs (get A k) (get B k)) (ascending (keys A ++ keys B)) n)
    ∙ ap (λ b. (b && differs (get A n) (get B n)) && p n) (either A B n)
    ∙ h n
    ∙ ap (λ b. b && q n) (has_number C n)
    ∙ sym (has_passing q (keys C) n))

and_false : (b : Bool) → (b && false) ≡ false
and_false true = refl
and_false false = refl

and_true : (b : Bool) → (b && true) ≡ b
and_true true = refl
and_true false = refl

added_by : (x y : Option (List ℕ)) → (((is_some x || is_some y) && differs x y) && not (is_some x)) ≡ (is_some y && not (is_some x))
added_by None None = refl
added_by None (Some b) = refl
added_by (Some a) None = refl
added_by (Some a) (Some b) = and_false (differs (Some a) (Some b))

modified_by : (x y : Option (List ℕ)) → (((is_some x || is_some y) && differs x y) && (is_some x && is_some y)) ≡ (is_some y && (is_some x && differs x y))
modified_by None None = refl
modified_by None (Some b) = refl
modified_by (Some a) None = refl
modified_by (Some a) (Some b) = and_true (differs (Some a) (Some b))

deleted_by : (x y : Option (List ℕ)) → (((is_some x || is_some y) && differs x y) && not (is_some y)) ≡ (is_some x && not (is_some y))
deleted_by None None = refl
deleted_by None (Some b) = refl
deleted_by (Some a) None = refl
deleted_by (Some a) (Some b) = and_false (differs (Some a) (Some b))

length_by : (xs : List ℕ) (es : List (ℕ × List ℕ)) (e : ℕ × List ℕ) (b : Bool) → length xs ≡ length es → length (cond b (e.0 ∷ xs) xs) ≡ length (cond b (e ∷ es) es)
length_by xs es e true h = omega (arith, h)
length_by xs es e false h = h

length_keys : (q : ℕ → Bool) (es : List (ℕ × List ℕ)) → length (filter q (map (λ e. e.0) es)) ≡ length (filter (λ e. q e.0) es)
length_keys q [] = refl
length_keys q (e ∷ es) = length_by (filter q (map (λ e. e.0) es)) (filter (λ e. q e.0) es) e (q e.0) (length_keys q es)

pub added_length : (A B : Texts) → length (filter (λ n. not (contains_key A n)) (touched_between A B)) ≡ length (delta A B).added
added_length A B = ap length (passing_same A B B (λ n. not (contains_key A n)) (λ n. not (contains_key A n)) (λ n. added_by (get A n) (get B n))) ∙ length_keys (λ n. not (contains_key A n)) (entries B)

pub modified_length : (A B : Texts) → length (filter (λ n. contains_key A n && contains_key B n) (touched_between A B)) ≡ length (delta A B).modified
modified_length A B =
    ap length (passing_same A B B (λ n. contains_key A n && contains_key B n) (λ n. contains_key A n && differs (get A n) (get B n)) (λ n. modified_by (get A n) (get B n)))
    ∙ length_keys (λ n. contains_key A n && differs (get A n) (get B n)) (entries B)

pub deleted_length : (A B : Texts) → length (filter (λ n. not (contains_key B n)) (touched_between A B)) ≡ length (delta A B).deleted
deleted_length A B = ap length (passing_same A B A (λ n. not (contains_key B n)) (λ n. not (contains_key B n)) (λ n. deleted_by (get A n) (get B n)))
