-- A graph by rows, and the finite map that it stands for.
use Rattle.std.proofs.Common.{ℕ, zero, suc, ◌+◌, ◌^◌, ◌<◌, ◌≤◌, ◌≡◌, Bool, true, false, cond, List, [], ◌∷◌, ◌++◌, Option, Some, None, length, get_or, set, ap, sym, subst, refl, ◌∙◌, arith, nat_eq, ⊎_elim}
use Rattle.std.specs.Prelude.{T, ◌&&◌, ◌||◌, ◌≢◌}
use Rattle.std.specs.Ordering.{nat_cmp, is_lt, is_eq, eq_by_cmp}
use Rattle.std.specs.declared.cmp.Ordering.TheVariants.{Less, Equal, Greater}
use Rattle.std.specs.Cmp.{nat_cmp_total, nat_cmp_is, ranked}
use Rattle.std.specs.List.{sum_by, list_any, AllByRecursion}
use Rattle.std.specs.List.Sorted.{IsStrictlySortedBy}
use Rattle.std.specs.Bool.{IsTrue}
use Rattle.std.specs.Option.{is_some, IfSome}
use Rattle.std.specs.FinMap.{empty, get-empty, contains_key, get, entries, find, get-from_sorted, entries-from_sorted, get-insert, get-remove, same_map, nat_cmp-IsAntisymmetric}
use Rattle.std.specs.FinMap.Entries.{below_all, is_sorted}
use Rattle.std.proofs.lemmas.List.{length-set, get_or_past, get_or-set_same, get_or-set_other}
use Rattle.std.proofs.lemmas.List.Sums.{sum_by-cons}
use Rattle.std.proofs.lemmas.Bool.{cases_lt, eqb-true}
use Rattle.mt_refs.specs.Lists.{times, targets_in}
use Rattle.mt_refs.proofs.Sums.{size_set}
use Rattle.mt_refs.specs.Graphs.{count, edge_total}
use Rattle.mt_refs.specs.Patches.{with_list}
use Rattle.mt_refs.specs.Tables.{IsKept, into, size, entries_from, edges_of, graph_of}

both : (a b : Bool) → T a → T b → T (a && b)
both true b p q = q
both false b p q = p

-- ---- two numbers

pub ties : (q k : ℕ) → q ≡ k → eq_by_cmp nat_cmp q k ≡ true
ties q k e = ap is_eq (sym (nat_cmp_is q k Equal e))

pub below_apart : (q k : ℕ) → q < k → eq_by_cmp nat_cmp q k ≡ false
below_apart q k h = ap is_eq (sym (nat_cmp_is q k Less h))

pub above_apart : (q k : ℕ) → k < q → eq_by_cmp nat_cmp q k ≡ false
above_apart q k h = ap is_eq (sym (nat_cmp_is q k Greater h))

pub apart_eq : (q k : ℕ) → q ≢ k → nat_eq q k ≡ false
apart_eq q k ne = grind arith

-- ---- the entries of the rows

below_from : (k i : ℕ) (ls : List (Option (List ℕ))) → k < i → T (below_all nat_cmp k (entries_from i ls))
below_from k i [] h = tt
below_from k i (None ∷ ls) h = below_from k (i + 1) ls (omega arith)
below_from k i (Some es ∷ ls) h = both _ _ (subst (λ r. T (is_lt r)) (nat_cmp_is k i Less h) tt) (below_from k (i + 1) ls (omega arith))

sorted_from : (i : ℕ) (ls : List (Option (List ℕ))) → T (is_sorted nat_cmp (entries_from i ls))
sorted_from i [] = tt
sorted_from i (None ∷ ls) = sorted_from (i + 1) ls
sorted_from i (Some es ∷ ls) = both _ _ (below_from i (i + 1) ls (omega arith)) (sorted_from (i + 1) ls)

find_before : (q i : ℕ) (ls : List (Option (List ℕ))) → q < i → find nat_cmp q (entries_from i ls) ≡ None
find_before q i [] h = refl
find_before q i (None ∷ ls) h = find_before q (i + 1) ls (omega arith)
find_before q i (Some es ∷ ls) h = ap (λ b. cond b (Some es) (find nat_cmp q (entries_from (i + 1) ls))) (below_apart q i h) ∙ find_before q (i + 1) ls (omega arith)

find_at : (q i j : ℕ) (ls : List (Option (List ℕ))) → q ≡ i + j → find nat_cmp q (entries_from i ls) ≡ get_or ls j None
find_at q i j [] e = refl
find_at q i zero (None ∷ ls) e = find_before q (i + 1) ls (omega arith)
find_at q i (suc j) (None ∷ ls) e = find_at q (i + 1) j ls (omega arith)
find_at q i zero (Some es ∷ ls) e = ap (λ b. cond b (Some es) (find nat_cmp q (entries_from (i + 1) ls))) (ties q i (omega arith))
find_at q i (suc j) (Some es ∷ ls) e = ap (λ b. cond b (Some es) (find nat_cmp q (entries_from (i + 1) ls))) (above_apart q i (omega arith)) ∙ find_at q (i + 1) j ls (omega arith)

-- what the finite map has at a number is the row's list
pub get_rows : (ls : List (Option (List ℕ))) (q : ℕ) → get (edges_of ls) q ≡ get_or ls q None
get_rows ls q = get-from_sorted nat_cmp (entries_from 0 ls) q (sorted_from 0 ls) ∙ find_at q 0 q ls (omega arith)

-- ---- sums over the entries are sums over the rows

sum_from : (f : List ℕ → ℕ) → f [] ≡ 0 → (i : ℕ) (ls : List (Option (List ℕ))) → sum_by (λ (e : ℕ × List ℕ). f e.1) (entries_from i ls) ≡ sum_by (λ l. f (targets_in l)) ls
sum_from f z i [] = refl
sum_from f z i (None ∷ ls) =
    let rest = sum_from f z (i + 1) ls in
    let step = sum_by-cons (λ l. f (targets_in l)) None ls in
    omega arith
sum_from f z i (Some es ∷ ls) =
    let rest = sum_from f z (i + 1) ls in
    let step = sum_by-cons (λ l. f (targets_in l)) (Some es) ls in
    let other = sum_by-cons (λ (e : ℕ × List ℕ). f e.1) (i, es) (entries_from (i + 1) ls) in
    omega arith

sum_rows : (f : List ℕ → ℕ) → f [] ≡ 0 → (ls : List (Option (List ℕ))) → sum_by (λ (e : ℕ × List ℕ). f e.1) (entries (edges_of ls)) ≡ sum_by (λ l. f (targets_in l)) ls
sum_rows f z ls = ap (sum_by (λ (e : ℕ × List ℕ). f e.1)) (entries-from_sorted nat_cmp (entries_from 0 ls) (sorted_from 0 ls)) ∙ sum_from f z 0 ls

pub total_rows : (ls : List (Option (List ℕ))) → edge_total (edges_of ls) ≡ size ls
total_rows ls = sum_rows (λ es. length es) refl ls

-- ---- pins

none_above : (n : ℕ) (ps : List ℕ) → AllByRecursion (λ y. nat_cmp n y ≡ Less) ps → times n ps ≡ 0
none_above n [] h = refl
none_above n (p ∷ ps) h =
    let above : n < p = ranked n p Less (sym h.0) in
    let no : nat_eq n p ≡ false = apart_eq n p (λ s. omega arith) in
    let step : times n (p ∷ ps) ≡ cond (nat_eq n p) 1 0 + times n ps = sum_by-cons (λ x. cond (nat_eq n x) 1 0) p ps in
    let none : cond {A = ℕ} (nat_eq n p) 1 0 ≡ 0 = ap (λ (b : Bool). cond {A = ℕ} b 1 0) no in
    let rest = none_above n ps h.1 in
    omega arith

-- a number is in an ascending list once or not at all
pub times_once : (n : ℕ) (ps : List ℕ) → IsStrictlySortedBy nat_cmp ps → times n ps ≡ cond (list_any (nat_eq n) ps) 1 0
unfolding IsStrictlySortedBy
times_once n [] h = refl
times_once n (p ∷ ps) h =
    sum_by-cons (λ x. cond (nat_eq n x) 1 0) p ps
    ∙ elim (nat_eq n p) as (λ b. nat_eq n p ≡ b → cond b 1 0 + times n ps ≡ cond (b || list_any (nat_eq n) ps) 1 0) [
      | true ↦ λ e. let same : n ≡ p = eqb-true n p e in let no : times n ps ≡ 0 = none_above n ps (subst (λ k. AllByRecursion (λ y. nat_cmp k y ≡ Less) ps) (sym same) h.0) in omega arith
      | false ↦ λ e. let rest = times_once n ps h.1 in omega arith
    ] refl

at_most_one : (b : Bool) → cond b 1 0 ≤ 1
at_most_one true = omega arith
at_most_one false = omega arith

pub times_at_most : (n : ℕ) (ps : List ℕ) → IsStrictlySortedBy nat_cmp ps → times n ps ≤ 1
times_at_most n ps h = subst (λ k. k ≤ 1) (sym (times_once n ps h)) (at_most_one (list_any (nat_eq n) ps))

-- the count of a node, by rows
pub count_rows : (ls : List (Option (List ℕ))) (ps : List ℕ) (sp n : ℕ) → IsStrictlySortedBy nat_cmp ps → count (graph_of ls ps sp) n ≡ into n ls + times n ps
count_rows ls ps sp n h =
    let edges : sum_by (λ (e : ℕ × List ℕ). times n e.1) (entries (edges_of ls)) ≡ into n ls = sum_rows (times n) refl ls in
    ap (λ s. s + cond (list_any (nat_eq n) ps) 1 0) edges ∙ ap (λ k. into n ls + k) (sym (times_once n ps h))

-- ---- one row changed

set_row : (ls : List (Option (List ℕ))) (n q : ℕ) (o : Option (List ℕ)) → n < length ls → get_or (set ls n o) q None ≡ cond (eq_by_cmp nat_cmp q n) o (get_or ls q None)
set_row ls n q o h = ⊎_elim
    (λ below. get_or-set_other ls n q o None (λ e. omega arith) ∙ sym (ap (λ b. cond b o (get_or ls q None)) (below_apart q n below)))
    (λ least. ⊎_elim
    (λ above. get_or-set_other ls n q o None (λ e. omega arith) ∙ sym (ap (λ b. cond b o (get_or ls q None)) (above_apart q n above)))
    (λ most. let e : q ≡ n = omega arith in subst (λ q. get_or (set ls n o) q None ≡ cond (eq_by_cmp nat_cmp q n) o (get_or ls q None)) (sym e) (get_or-set_same ls n o None h ∙ sym (ap (λ b. cond b o (get_or ls n None)) (ties n n refl))))
    (cases_lt n q))
    (cases_lt q n)

-- a graph with one row changed is the finite map with one key changed
pub with_set : (ls : List (Option (List ℕ))) (n : ℕ) (o : Option (List ℕ)) → n < length ls → edges_of (set ls n o) ≡ with_list (edges_of ls) n o
with_set ls n None h = same_map nat_cmp_total nat_cmp-IsAntisymmetric _ _ (λ q. get_rows (set ls n None) q ∙ set_row ls n q None h ∙ sym (get-remove nat_cmp_total (edges_of ls) n q ∙ ap (cond (eq_by_cmp nat_cmp q n) None) (get_rows ls q)))
with_set ls n (Some es) h = same_map nat_cmp_total nat_cmp-IsAntisymmetric _ _ (λ q. get_rows (set ls n (Some es)) q ∙ set_row ls n q (Some es) h ∙ sym (get-insert nat_cmp_total (edges_of ls) n es q ∙ ap (cond (eq_by_cmp nat_cmp q n) (Some es)) (get_rows ls q)))

-- ---- live nodes

same_default : {X : Type 0} (xs : List X) (i : ℕ) (d e : X) → i < length xs → get_or xs i d ≡ get_or xs i e
same_default [] i d e h = absurd (omega arith)
same_default (x ∷ xs) zero d e h = refl
same_default (x ∷ xs) (suc i) d e h = same_default xs i d e (omega arith)

-- an element in range, by any default
pub in_range : {X : Type 0} (xs : List X) (i : ℕ) (d e n : X) → i < length xs → n ≡ get_or xs i d → n ≡ get_or xs i e
in_range xs i d e n h is = is ∙ same_default xs i d e h

no_list : IsTrue (is_some {T = List ℕ} None) → ⊥
no_list h = subst T (sym h) tt

pub live_below : (ls : List (Option (List ℕ))) (q : ℕ) → IsTrue (contains_key (edges_of ls) q) → q < length ls
live_below ls q h = ⊎_elim (λ a. a) (λ b. absurd (no_list (subst (λ o. IsTrue (is_some o)) (get_rows ls q ∙ get_or_past ls q None b) h))) (cases_lt q (length ls))

-- ---- after one row is changed

pub kept_after : (ls new : List (Option (List ℕ))) (cs ds : List ℕ) (ps : List ℕ) (sp n : ℕ) (o : Option (List ℕ)) → IsKept ls cs ps sp → n < sp → new ≡ set ls n o → length ds ≡ length cs → ((q : ℕ) → get_or ds q 0 + into q ls ≡ get_or cs q 0 + into q new) → size (set ls n o) + 1 < 2 ^ 32 → IsKept new ds ps sp
kept_after ls new cs ds ps sp n o k b is len moved small =
    let same : length new ≡ length ls = ap (λ xs. length xs) is ∙ length-set ls n o in
    let r = k.roomy in
    let c = k.counted in
    record {
      roomy = omega arith;
      above = λ q h. ap (λ xs. get_or xs q None) is ∙ get_or-set_other ls n q o None (λ e. omega arith) ∙ k.above q h;
      counted = omega arith;
      ascending = k.ascending;
      small = subst (λ xs. size xs + 1 < 2 ^ 32) (sym is) small;
      exact = λ q. let m = moved q in let e = k.exact q in omega arith;
    }

pub graph_after : (ls new : List (Option (List ℕ))) (ps : List ℕ) (sp n : ℕ) (o : Option (List ℕ)) → n < length ls → new ≡ set ls n o → graph_of new ps sp ≡ record { edges = with_list (edges_of ls) n o; pins = ps; spare = sp }
graph_after ls new ps sp n o h is = ap (λ xs. graph_of xs ps sp) is
    ∙ ap (λ m. record { edges = m; pins = ps; spare = sp }) (with_set ls n o h)

pub total_after : (ls new : List (Option (List ℕ))) (n : ℕ) (o : Option (List ℕ)) → n < length ls → new ≡ set ls n o → edge_total (edges_of new) + length (targets_in (get (edges_of ls) n)) ≡ edge_total (edges_of ls) + length (targets_in o)
total_after ls new n o h is =
    let a = total_rows new in
    let b = total_rows ls in
    let c = size_set n ls o None h in
    let d : size new ≡ size (set ls n o) = ap size is in
    let e : length (targets_in (get (edges_of ls) n)) ≡ length (targets_in (get_or ls n None)) = ap (λ l. length (targets_in l)) (get_rows ls n) in
    omega arith

-- the edges still fit
pub small_after : (ls : List (Option (List ℕ))) (n : ℕ) (o : Option (List ℕ)) → n < length ls → size ls + 1 < 2 ^ 32 → IfSome o (λ es. size ls + length es + 1 < 2 ^ 32) → size (set ls n o) + 1 < 2 ^ 32
small_after ls n None h s few = let c = size_set n ls None None h in omega arith
small_after ls n (Some es) h s few = let c = size_set n ls (Some es) None h in omega arith

-- ---- empty rows at the end

pub same_edges : (ls new : List (Option (List ℕ))) → ((n : ℕ) → get_or new n None ≡ get_or ls n None) → edges_of new ≡ edges_of ls
same_edges ls new h = same_map nat_cmp_total nat_cmp-IsAntisymmetric _ _ (λ q. get_rows new q ∙ h q ∙ sym (get_rows ls q))

-- the default at the end changes no element
pub push_default : {X : Type 0} (xs : List X) (d : X) (n : ℕ) → get_or (xs ++ d ∷ []) n d ≡ get_or xs n d
push_default [] d zero = refl
push_default [] d (suc n) = refl
push_default (x ∷ xs) d zero = refl
push_default (x ∷ xs) d (suc n) = push_default xs d n

pub no_edges : edges_of [] ≡ empty
no_edges = same_map nat_cmp_total nat_cmp-IsAntisymmetric _ _ (λ q. get_rows [] q ∙ sym (get-empty nat_cmp q))

no_pins : IsStrictlySortedBy nat_cmp []
unfolding IsStrictlySortedBy
no_pins = tt

nothing_at : (n : ℕ) → get_or [] n 0 ≡ into n [] + times n []
nothing_at zero = refl
nothing_at (suc n) = refl

pub none_kept : IsKept [] [] [] 0
none_kept = record {
  roomy = omega arith;
  above = λ q h. refl;
  counted = omega arith;
  ascending = no_pins;
  small = omega arith;
  exact = λ n. nothing_at n;
}

-- a live node is below spare
pub live_below_spare : (ls : List (Option (List ℕ))) (sp q : ℕ) → ((n : ℕ) → sp ≤ n → get_or ls n None ≡ None) → IsTrue (contains_key (edges_of ls) q) → q < sp
live_below_spare ls sp q above h = ⊎_elim (λ a. a) (λ b. absurd (no_list (subst (λ o. IsTrue (is_some o)) (get_rows ls q ∙ above q b) h))) (cases_lt q sp)
