-- Sums over edge lists.
use Rattle.std.proofs.Common.{ℕ, ◌+◌, ◌<◌, ◌≤◌, ◌≡◌, List, Option, length, get_or, set, take, eq-eqb, refl, arith, true, cond, nat_eq}
use Rattle.std.proofs.lemmas.List.Sums.{sum_by-set, sum_by-le-sum_by, count_by-le-length, sum_by_more_le, get_or-le-sum_by}
use Rattle.mt_refs.specs.Lists.{times, targets_in}
use Rattle.mt_refs.specs.Tables.{into, size}

-- the element at i is there once more than before i
pub times_here : (targets : List ℕ) (i : ℕ) → i < length targets → times (get_or targets i 0) (take i targets) + 1 ≤ times (get_or targets i 0) targets
times_here targets i h =
    let n = get_or targets i 0 in
    let e : nat_eq n n ≡ true = eq-eqb n n refl in
    let m : times n (take i targets) + cond (nat_eq n n) 1 0 ≤ times n targets = sum_by_more_le (λ x. cond (nat_eq n x) 1 0) targets i 0 h in
    rw e at m

-- an element is there
pub times_of : (targets : List ℕ) (i : ℕ) → i < length targets → 1 ≤ times (get_or targets i 0) targets
times_of targets i h = let m = times_here targets i h in omega arith

-- the edges into n, with one list changed
pub into_set : (n node : ℕ) (lists : List (Option (List ℕ))) (list d : Option (List ℕ)) → node < length lists → into n (set lists node list) + times n (targets_in (get_or lists node d)) ≡ into n lists + times n (targets_in list)
into_set n node lists list d h = sum_by-set (λ l. times n (targets_in l)) lists node list d h

-- all edges, with one list changed
pub size_set : (node : ℕ) (lists : List (Option (List ℕ))) (list d : Option (List ℕ)) → node < length lists → size (set lists node list) + length (targets_in (get_or lists node d)) ≡ size lists + length (targets_in list)
size_set node lists list d h = sum_by-set (λ l. length (targets_in l)) lists node list d h

pub into_le_size : (n : ℕ) (lists : List (Option (List ℕ))) → into n lists ≤ size lists
into_le_size n lists = sum_by-le-sum_by (λ l. times n (targets_in l)) (λ l. length (targets_in l)) lists (λ l. count_by-le-length (nat_eq n) (targets_in l))

-- the edges of one list into n are among those of all
pub times_le_into : (n node : ℕ) (lists : List (Option (List ℕ))) (d : Option (List ℕ)) → node < length lists → times n (targets_in (get_or lists node d)) ≤ into n lists
times_le_into n node lists d h = get_or-le-sum_by (λ l. times n (targets_in l)) lists node d h
