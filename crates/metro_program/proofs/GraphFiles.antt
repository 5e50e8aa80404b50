-- The entries and the modules of a graph are files.
use Rattle.std.proofs.Common.{inl, inr, ◌⊎◌, ◌≡◌, ◌∙◌, ℕ, true, not, List, filter, Option, Some, None, refl, sym}
use Rattle.std.specs.List.{list_any, IsDistinct}
use Rattle.std.specs.Option.{is_some}
use Rattle.std.specs.Ordering.{nat_cmp}
use Rattle.std.specs.Cmp.Lexicographic.{slice_cmp}
use Rattle.std.specs.Str.{bytes_eq}
use Rattle.std.specs.FinMap.{contains_key, contains_key-keys, get, keys}
use Rattle.std.proofs.lemmas.Bool.{or_cases}
use Rattle.std.proofs.lemmas.List.Elements.{All-contains}
use Rattle.std.proofs.lemmas.List.Folds.{list_any-append}
use Rattle.mt_containers.proofs.Tables.{keys_sorted}
use Rattle.mt_files.specs.Asks.{Ask}
use Rattle.mt_files.specs.Snapshots.{Snapshot, has_source, source_of}
use Rattle.mt_files.specs.declared.file_map.Entry.{Entry}
use Rattle.mt_files.proofs.PathLists.{Has, has_contains, has_filter, has_key}
use Rattle.mt_graph.specs.Graphs.{GraphMap}
use Rattle.mt_fresh.specs.JudgedGraphs.{IsGraphOf}
use Rattle.mt_revision.specs.Numberings.{extended, has_path, with_new}
use Rattle.mt_revision.proofs.Extensions.{ascending_distinct, extended_distinct}

file_of : (o : Option Entry) → is_some (source_of o) ≡ true → is_some o ≡ true
file_of None h = h
file_of (Some entry) h = refl

new_cases : (xs ys : List (List ℕ)) (q : List ℕ) → Has (with_new xs ys) q → Has xs q ⊎ Has ys q
new_cases xs ys q h = elim (or_cases (list_any (bytes_eq q) xs) (list_any (bytes_eq q) (filter (λ p. not (has_path xs p)) ys)) (sym (list_any-append (bytes_eq q) xs (filter (λ p. not (has_path xs p)) ys)) ∙ h)) [
  | inl a ↦ inl a
  | inr b ↦ inr (has_filter (λ p. not (has_path xs p)) ys q b).0
]

module _ (ask : Ask) (files : Snapshot) (graph : GraphMap) (is : IsGraphOf ask files graph) where
  -- a module is a file
  pub module_file : (path : List ℕ) → Has (keys graph) path → contains_key files path ≡ true
  module_file path has = file_of (get files path) (All-contains (λ p. has_source files p ≡ true) (keys graph) path is.there (has_contains (keys graph) path has))

  -- and so is an entry
  pub entry_file : (path : List ℕ) → Has ask.entries path → contains_key files path ≡ true
  entry_file path has =
      let key : contains_key graph path ≡ true = All-contains (λ p. contains_key graph p ≡ true) ask.entries path is.entries (has_contains ask.entries path has) in
      module_file path (sym (has_key path (keys graph)) ∙ sym (contains_key-keys graph path) ∙ key)

  -- a path that gets a number had one, or is a file
  pub numbered_file : (numbering : List (List ℕ)) (path : List ℕ) → Has (extended numbering ask.entries (keys graph)) path → Has numbering path ⊎ (contains_key files path ≡ true)
  numbered_file numbering path has = elim (new_cases (with_new numbering ask.entries) (keys graph) path has) [
    | inl before ↦ elim (new_cases numbering ask.entries path before) [
      | inl old ↦ inl old
      | inr entry ↦ inr (entry_file path entry)
    ]
    | inr member ↦ inr (module_file path member)
  ]

  -- no path gets two numbers
  pub numbered_distinct : (numbering : List (List ℕ)) → IsDistinct bytes_eq numbering → IsDistinct bytes_eq ask.entries → IsDistinct bytes_eq (extended numbering ask.entries (keys graph))
  numbered_distinct numbering distinct entries = extended_distinct numbering ask.entries (keys graph) distinct entries (ascending_distinct (keys graph) (keys_sorted (slice_cmp nat_cmp) graph))
