-- What it costs to read nodes.
use Rattle.std.proofs.Common.{ℕ, ◌+◌, ◌≤◌, ◌≡◌, List, [], ◌∷◌, length, None, refl, ap, arith}
use Rattle.std.specs.List.{Contains, sum_by}
use Rattle.std.specs.List.Sorted.{IsStrictlySortedBy}
use Rattle.std.specs.Bool.{IsTrue}
use Rattle.std.specs.Ordering.{nat_cmp}
use Rattle.std.specs.FinMap.{FinMap, contains_key, empty, get, insert, keys}
use Rattle.std.proofs.lemmas.List.Sums.{sum_by-cons}
use Rattle.mt_containers.proofs.Tables.{keys_sorted}
use Rattle.mt_refs.specs.Graphs.{Graph, edge_total, edges_from}
use Rattle.mt_trial.specs.Deaths.{reads_of}
use Rattle.mt_trial.proofs.Ascents.{sum_le}
use Rattle.mt_trial.proofs.Keys.{key_contains, keys_empty, sum_insert}
use Rattle.mt_trial.proofs.Outers.{sum_parts}

module _ (g : Graph) where
  -- how many edges lead from some nodes
  abbrev pub size_from : List ℕ → ℕ
  size_from ks = sum_by (λ n. length (edges_from g n)) ks

  -- each node is one read
  pub length_reads : (ks : List ℕ) → length ks ≤ reads_of g ks
  length_reads [] = omega arith
  length_reads (k ∷ ks) =
      let rest = length_reads ks in
      let more = sum_by-cons (λ n. length (edges_from g n) + 1) k ks in
      omega arith

  -- no more than there are
  pub size_within : (reached : FinMap nat_cmp Unit) → size_from (keys reached) ≤ edge_total g.edges
  size_within reached = let parts = sum_parts (λ xs. length xs) refl g.edges (keys reached) (keys_sorted nat_cmp reached) in omega arith

  pub reads_empty : (reached : FinMap nat_cmp Unit) → reached ≡ empty → reads_of g (keys reached) ≡ 0
  reads_empty reached is = ap (reads_of g) (keys_empty reached is)

  pub size_insert : (reached : FinMap nat_cmp Unit) (n : ℕ) → get reached n ≡ None → size_from (keys (insert reached n tt)) ≡ size_from (keys reached) + length (edges_from g n)
  size_insert reached n new = sum_insert (λ n. length (edges_from g n)) reached n tt new

  pub reads_insert : (reached : FinMap nat_cmp Unit) (n : ℕ) → get reached n ≡ None → reads_of g (keys (insert reached n tt)) ≡ reads_of g (keys reached) + (length (edges_from g n) + 1)
  reads_insert reached n new = sum_insert (λ n. length (edges_from g n) + 1) reached n tt new

  -- reading a set of nodes costs no more than reading ascending nodes that have it
  pub reads_within : (reached : FinMap nat_cmp Unit) (nodes : List ℕ) → IsStrictlySortedBy nat_cmp nodes → ((n : ℕ) → IsTrue (contains_key reached n) → Contains nodes n) → reads_of g (keys reached) ≤ reads_of g nodes
  reads_within reached nodes h inside = sum_le (λ n. length (edges_from g n) + 1) (keys reached) nodes (keys_sorted nat_cmp reached) h (λ n w. inside n (key_contains reached n w))
