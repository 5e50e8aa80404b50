-- What a revision has of a snapshot.
use Rattle.std.proofs.Common.{inl, inr, ◌⊎◌, ◌≡◌, ◌∙◌, ℕ, Bool, true, false, ◌&&◌, cond, nat_eq, List, [], ◌∷◌, map, length, slice_get, Option, Some, None, Result, Ok, Err, refl, ap, sym}
use Rattle.std.specs.List.{cons_option, filter_map, list_all, list_any}
use Rattle.std.specs.Option.{option_and_then, option_map, option_map_or}
use Rattle.std.specs.Result.{result_ok}
use Rattle.std.specs.Str.{bytes_eq}
use Rattle.std.specs.Ordering.{nat_cmp, eq_by_cmp}
use Rattle.std.specs.Cmp.{nat_cmp_total, unsigned_tied}
use Rattle.std.specs.FinMap.{find, get, get-from_entries}
use Rattle.std.proofs.lemmas.Bool.{and_parts, cases_Bool, or_cases}
use Rattle.std.proofs.lemmas.Cmp.{nat_eq_equiv}
use Rattle.std.proofs.lemmas.List.{length-map}
use Rattle.mt_tokens.specs.declared.source.SourceFault.{SourceFault}
use Rattle.mt_tokens.specs.Transform.{Transformed, dependencies_of, transformed}
use Rattle.mt_package.specs.declared.options.Options.{Options}
use Rattle.mt_files.specs.Asks.{Ask}
use Rattle.mt_files.specs.Snapshots.{Snapshot, source_at}
use Rattle.mt_files.specs.Resolve.{file_of}
use Rattle.mt_files.specs.Edges.{edges, kind_of, target_of, targets_at}
use Rattle.mt_files.specs.Reach.{reach}
use Rattle.mt_files.specs.declared.target.Target.{Target}
use Rattle.mt_files.specs.declared.target.Target.TheVariants.{File, BadPackage}
use Rattle.mt_files.specs.declared.target.Target.TheVariants as target
use Rattle.mt_files.proofs.PathLists.{Has, all_at, has_head, has_tail, same_path}
use Rattle.mt_files.proofs.Reach.{reach_step}
use Rattle.mt_transform.specs.Outputs.{name_of, output_made, output_of}
use Rattle.mt_transform.specs.declared.output.Output.{Output}
use Rattle.mt_revision.specs.Numberings.{has_path, number_in}
use Rattle.mt_revision.specs.Contents.{HasContent, module_at, module_with, numbered_module, output_at, path_under, paths_under, slot_of}
use Rattle.mt_revision.specs.declared.modules.Module.{Module}
use Rattle.mt_revision.specs.declared.revision.Revision.{Revision}
use Rattle.mt_revision.proofs.Numbers.{path_of_number, path_with_number}
use Rattle.mt_revision.proofs.Sets.{same_number}

-- ---- slots

-- the slots of targets lead to the sources among them
slots_lead : (numbering : List (List ℕ)) (targets : List Target) → list_all (has_path numbering) (filter_map file_of targets) ≡ true
    → filter_map (path_under numbering) (map (slot_of numbering) targets) ≡ filter_map file_of targets
slots_lead numbering [] h = refl
slots_lead numbering (File path ∷ ts) h =
    let p = and_parts (has_path numbering path) (list_all (has_path numbering) (filter_map file_of ts)) h in
    ap (λ o. cons_option o (filter_map (path_under numbering) (map (slot_of numbering) ts))) (path_with_number numbering path p.0) ∙ ap (λ z. path ∷ z) (slots_lead numbering ts p.1)
slots_lead numbering (target.None ∷ ts) h = slots_lead numbering ts h
slots_lead numbering (BadPackage path ∷ ts) h = slots_lead numbering ts h

-- a test that holds of each path holds of all
all_by : (t : List ℕ → Bool) (ps : List (List ℕ)) (p : List ℕ) (b : Bool) → t p ≡ b → b ≡ true → list_all t ps ≡ true → list_all t (p ∷ ps) ≡ true
all_by t ps p true e h k = ap (λ b. b && list_all t ps) e ∙ k
all_by t ps p false e h k = cc

pub all_from : (t : List ℕ → Bool) (ps : List (List ℕ)) → ((q : List ℕ) → Has ps q → t q ≡ true) → list_all t ps ≡ true
all_from t [] h = refl
all_from t (p ∷ ps) h = all_by t ps p (t p) refl (h p (has_head p ps)) (all_from t ps (λ q k. h q (has_tail p q ps k)))

module _ (options : Options) (numbering : List (List ℕ)) (files : Snapshot) where
  -- ---- the module at a path

  -- it has the path, and the slots of the path's targets
  with_parts : (path : List ℕ) (o : Option Output) (m : Module) → option_map (module_with options numbering files path) o ≡ Some m → (output : Output) × ((o ≡ Some output) × (m ≡ module_with options numbering files path output))
  with_parts path None m h = cc
  with_parts path (Some output) m h = (output, (refl, let e : m ≡ module_with options numbering files path output = cc in e))

  pub module_parts : (path : List ℕ) (m : Module) → module_at options numbering files path ≡ Some m
      → (output : Output) × ((option_and_then result_ok (output_at options files path) ≡ Some output) × (m ≡ module_with options numbering files path output))
  module_parts path m h = with_parts path (option_and_then result_ok (output_at options files path)) m h

  pub module_path : (path : List ℕ) (m : Module) → module_at options numbering files path ≡ Some m → m.path ≡ path
  module_path path m h = let p = module_parts path m h in ap (λ x. x.path) p.1.1

  made_names : (path : List ℕ) (strip : Bool) (source : List ℕ) (r : Result Transformed SourceFault) (output : Output) → result_ok (output_made strip (kind_of path) source r) ≡ Some output
      → length (map (target_of options files path) (dependencies_of r)) ≡ length output.names
  made_names path strip source (Ok t) output h =
      let made : record { source = source; strip = strip; kind = kind_of path; body = t.body; names = map name_of t.dependencies; dynamic = t.dynamic } ≡ output = cc in
      length-map t.dependencies (target_of options files path) ∙ sym (length-map t.dependencies name_of) ∙ ap (λ o. length o.names) made
  made_names path strip source (Err f) output h = cc

  names_by : (path : List ℕ) (s : Option (List ℕ)) (output : Output) → option_and_then result_ok (option_map (output_of options.strip (kind_of path)) s) ≡ Some output
      → length (map (target_of options files path) (option_map_or dependencies_of (option_map (transformed options.strip (kind_of path)) s) [])) ≡ length output.names
  names_by path None output h = cc
  names_by path (Some source) output h = made_names path options.strip source (transformed options.strip (kind_of path) source) output h

  -- it has a slot for each name
  pub module_names : (path : List ℕ) (m : Module) → module_at options numbering files path ≡ Some m → length m.slots ≡ length m.output.names
  module_names path m h =
      let p = module_parts path m h in
      ap (λ x. length x.slots) p.1.1 ∙ length-map _ _ ∙ names_by path (source_at files path) p.0 p.1.0 ∙ ap (λ x. length x.output.names) (sym p.1.1)

  -- its slots lead to what the path requires, where each of these has a number
  pub module_edges : (path : List ℕ) (m : Module) → module_at options numbering files path ≡ Some m → list_all (has_path numbering) (edges options files path) ≡ true → paths_under numbering m ≡ edges options files path
  module_edges path m h k = ap (paths_under numbering) (module_parts path m h).1.1 ∙ slots_lead numbering (targets_at options files path) k

  -- ---- modules under their numbers

  -- those at some paths
  abbrev pub modules_of : List (List ℕ) → List (ℕ × Module)
  modules_of ps = filter_map (numbered_module options numbering files) ps

  under_by : (n : ℕ) (path : List ℕ) (ps : List (List ℕ)) (o : Option Module) (m : Module) → find nat_cmp n (cons_option (option_map (λ x. (number_in numbering path, x)) o) (modules_of ps)) ≡ Some m
      → ((number_in numbering path ≡ n) × (o ≡ Some m)) ⊎ (find nat_cmp n (modules_of ps) ≡ Some m)
  under_by n path ps None m h = inr h
  under_by n path ps (Some x) m h =
      elim (eq_by_cmp nat_cmp n (number_in numbering path)) as (λ b. eq_by_cmp nat_cmp n (number_in numbering path) ≡ b → cond b (Some x) (find nat_cmp n (modules_of ps)) ≡ Some m → ((number_in numbering path ≡ n) × (Some x ≡ Some m)) ⊎ (find nat_cmp n (modules_of ps) ≡ Some m)) [
        | true ↦ λ e k. inl (sym (same_number n (number_in numbering path) (sym (unsigned_tied n (number_in numbering path)) ∙ e)), k)
        | false ↦ λ e k. inr k
      ] refl h

  -- what is found under a number is the module of a path with this number
  pub module_under : (n : ℕ) (ps : List (List ℕ)) (m : Module) → find nat_cmp n (modules_of ps) ≡ Some m → (path : List ℕ) × (Has ps path × ((number_in numbering path ≡ n) × (module_at options numbering files path ≡ Some m)))
  module_under n [] m h = cc
  module_under n (p ∷ ps) m h = elim (under_by n p ps (module_at options numbering files p) m h) [
    | inl here ↦ (p, (has_head p ps, here))
    | inr later ↦ let r = module_under n ps m later in (r.0, (has_tail p r.0 ps r.1.0, r.1.1))
  ]

  found_by : (p path : List ℕ) (ps : List (List ℕ)) (o : Option Module) (m : Module) → has_path numbering p ≡ true → has_path numbering path ≡ true → module_at options numbering files path ≡ Some m → module_at options numbering files p ≡ o
      → (bytes_eq path p ≡ false → find nat_cmp (number_in numbering path) (modules_of ps) ≡ Some m)
      → find nat_cmp (number_in numbering path) (cons_option (option_map (λ x. (number_in numbering p, x)) o) (modules_of ps)) ≡ Some m
  found_by p path ps None m a b h e k =
      elim (cases_Bool (bytes_eq path p)) [
        | inl same ↦ let s : None ≡ Some m = sym e ∙ ap (module_at options numbering files) (sym (same_path path p same)) ∙ h in cc
        | inr other ↦ k other
      ]
  found_by p path ps (Some x) m a b h e k =
      elim (eq_by_cmp nat_cmp (number_in numbering path) (number_in numbering p)) as (λ t. eq_by_cmp nat_cmp (number_in numbering path) (number_in numbering p) ≡ t → cond t (Some x) (find nat_cmp (number_in numbering path) (modules_of ps)) ≡ Some m) [
        | true ↦ λ t. sym e ∙ ap (module_at options numbering files) (sym (path_of_number numbering path p b a (same_number _ _ (sym (unsigned_tied _ _) ∙ t)))) ∙ h
        | false ↦ λ t. k (elim (cases_Bool (bytes_eq path p)) [
          | inl same ↦ let s : eq_by_cmp nat_cmp (number_in numbering path) (number_in numbering p) ≡ true = unsigned_tied _ _ ∙ ap (λ z. nat_eq (number_in numbering path) (number_in numbering z)) (sym (same_path path p same)) ∙ nat_eq_equiv.refl (number_in numbering path) in cc
          | inr other ↦ other
        ])
      ] refl

  -- the module of each of the paths is found under the path's number
  pub module_found : (path : List ℕ) (m : Module) (ps : List (List ℕ)) → list_all (has_path numbering) ps ≡ true → Has ps path → module_at options numbering files path ≡ Some m → find nat_cmp (number_in numbering path) (modules_of ps) ≡ Some m
  module_found path m [] a h e = cc
  module_found path m (p ∷ ps) a h e =
      let both = and_parts (has_path numbering p) (list_all (has_path numbering) ps) a in
      found_by p path ps (module_at options numbering files p) m both.0 (all_at (has_path numbering) (p ∷ ps) path a h) e refl (λ other. module_found path m ps both.1 (elim (or_cases (bytes_eq path p) (list_any (bytes_eq path) ps) h) [
        | inl here ↦ let s : true ≡ false = sym here ∙ other in cc
        | inr later ↦ later
      ]) e)

-- ---- a revision that has content

module _ (ask : Ask) (r : Revision) (numbering : List (List ℕ)) (files : Snapshot) (content : HasContent ask r numbering files) where
  -- what a module requires has a number
  pub edges_numbered : (path : List ℕ) → Has (reach ask files) path → list_all (has_path numbering) (edges ask.options files path) ≡ true
  edges_numbered path h = all_from (has_path numbering) (edges ask.options files path) (λ q k. all_at (has_path numbering) (reach ask files) q content.numbered (reach_step ask files path q h k))

  -- a module is that of a path that is reached, under the path's number
  pub content_module : (n : ℕ) (m : Module) → get r.modules n ≡ Some m → (path : List ℕ) × (Has (reach ask files) path × ((number_in numbering path ≡ n) × (module_at ask.options numbering files path ≡ Some m)))
  content_module n m h =
      module_under ask.options numbering files n (reach ask files) m
      (sym (get-from_entries nat_cmp_total (modules_of ask.options numbering files (reach ask files)) n) ∙ ap (λ z. get z n) (sym content.modules) ∙ h)

  pub content_path : (n : ℕ) (m : Module) → get r.modules n ≡ Some m → slice_get numbering n ≡ Some m.path
  content_path n m h =
      let c = content_module n m h in
      ap (slice_get numbering) (sym c.1.1.0)
      ∙ path_with_number numbering c.0 (all_at (has_path numbering) (reach ask files) c.0 content.numbered c.1.0)
      ∙ ap Some (sym (module_path ask.options numbering files c.0 m c.1.1.1))

  pub content_edges : (n : ℕ) (m : Module) → get r.modules n ≡ Some m → paths_under numbering m ≡ edges ask.options files m.path
  content_edges n m h =
      let c = content_module n m h in
      module_edges ask.options numbering files c.0 m c.1.1.1 (edges_numbered c.0 c.1.0) ∙ ap (edges ask.options files) (sym (module_path ask.options numbering files c.0 m c.1.1.1))

  pub content_names : (n : ℕ) (m : Module) → get r.modules n ≡ Some m → length m.slots ≡ length m.output.names
  content_names n m h = let c = content_module n m h in module_names ask.options numbering files c.0 m c.1.1.1
