-- Where a snapshot has no fault, each path that the entries reach has a module.
use Rattle.std.proofs.Common.{◌≡◌, ◌∙◌, ℕ, Bool, true, false, ◌||◌, cond, List, [], ◌∷◌, ◌++◌, map, length, nat_lt, Option, Some, None, Result, Ok, Err, refl, ap, sym}
use Rattle.std.specs.List.{flat_map, list_any}
use Rattle.std.specs.Option.{is_some, option_and_then, option_map, option_map_or}
use Rattle.std.specs.Result.{result_ok}
use Rattle.std.specs.Str.{bytes_eq}
use Rattle.std.specs.Ordering.{nat_cmp, eq_by_cmp}
use Rattle.std.specs.Cmp.Lexicographic.{slice_cmp, nat_list_cmp_total}
use Rattle.std.specs.FinMap.{contains_key-keys, find, from_entries, get-from_entries}
use Rattle.std.proofs.lemmas.Map.Text.{is_eq-slice_cmp}
use Rattle.mt_tokens.specs.declared.source.SourceFault.{SourceFault}
use Rattle.mt_tokens.specs.Transform.{Transformed, transformed}
use Rattle.mt_package.specs.declared.options.Options.{Options}
use Rattle.mt_files.specs.Asks.{Ask}
use Rattle.mt_files.specs.Snapshots.{Snapshot, source_at}
use Rattle.mt_files.specs.Edges.{faults_at, kind_of, made_faults}
use Rattle.mt_files.specs.Fresh.{all_faults, ascending, max_modules, members}
use Rattle.mt_files.specs.Reach.{reach}
use Rattle.mt_files.specs.declared.build_fault.BuildFault.{BuildFault}
use Rattle.mt_files.specs.declared.build_fault.BuildFault.TheVariants.{EntryMissing, TooManyModules}
use Rattle.mt_files.proofs.PathLists.{Has, append_right, has_key, same_path}
use Rattle.mt_transform.specs.Outputs.{output_made, output_of}
use Rattle.mt_transform.specs.declared.output.Output.{Output}
use Rattle.mt_revision.specs.Contents.{module_at, module_with}
use Rattle.mt_revision.specs.declared.modules.Module.{Module}

-- ---- members

found_by : (p : List ℕ) (rest : Option (List ℕ)) (b r : Bool) → (r ≡ true → is_some rest ≡ true) → (b || r) ≡ true → is_some (cond b (Some p) rest) ≡ true
found_by p rest true r h k = refl
found_by p rest false r h k = h k

found_among : (xs : List (List ℕ)) (q : List ℕ) → Has xs q → is_some (find (slice_cmp nat_cmp) q (map (λ p. (p, p)) xs)) ≡ true
found_among [] q h = cc
found_among (p ∷ ps) q h =
    found_by p (find (slice_cmp nat_cmp) q (map (λ x. (x, x)) ps)) (eq_by_cmp (slice_cmp nat_cmp) q p) (list_any (bytes_eq q) ps) (found_among ps q) (ap (λ b. b || list_any (bytes_eq q) ps) (is_eq-slice_cmp q p) ∙ h)

-- paths that are put in order are there
in_order : (xs : List (List ℕ)) (q : List ℕ) → Has xs q → Has (ascending xs) q
in_order xs q h =
    sym (has_key q (ascending xs))
    ∙ sym (contains_key-keys (from_entries {R = slice_cmp nat_cmp} (map (λ p. (p, p)) xs)) q)
    ∙ ap is_some (get-from_entries nat_list_cmp_total (map (λ p. (p, p)) xs) q)
    ∙ found_among xs q h

reached_member : (ask : Ask) (files : Snapshot) (q : List ℕ) → Has (reach ask files) q → Has (members ask files) q
reached_member ask files q h = in_order (ask.entries ++ reach ask files) q (append_right ask.entries (reach ask files) q h)

-- ---- no faults

pub none_both : {A : Type 0} (xs ys : List A) → xs ++ ys ≡ [] → (xs ≡ []) × (ys ≡ [])
none_both [] ys h = (refl, h)
none_both (x ∷ xs) ys h = cc

none_by : (f : List ℕ → List BuildFault) (p q : List ℕ) (b r : Bool) → bytes_eq q p ≡ b → f p ≡ [] → (r ≡ true → f q ≡ []) → (b || r) ≡ true → f q ≡ []
none_by f p q true r e h k i = ap f (same_path q p e) ∙ h
none_by f p q false r e h k i = k i

none_of : (f : List ℕ → List BuildFault) (ps : List (List ℕ)) (q : List ℕ) → flat_map f ps ≡ [] → Has ps q → f q ≡ []
none_of f [] q h k = cc
none_of f (p ∷ ps) q h k = let both = none_both (f p) (flat_map f ps) h in none_by f p q (bytes_eq q p) (list_any (bytes_eq q) ps) refl both.0 (none_of f ps q both.1) k

not_many : (b : Bool) (faults : List BuildFault) → cond b (TooManyModules ∷ []) faults ≡ [] → faults ≡ []
not_many true faults h = cc
not_many false faults h = h

-- where there is no fault, no member has one
pub no_fault_among : (ask : Ask) (files : Snapshot) (path : List ℕ) → all_faults ask files ≡ [] → Has (members ask files) path → faults_at ask.options files path ≡ []
no_fault_among ask files path h k = none_of (faults_at ask.options files) (members ask files) path (not_many (nat_lt max_modules (length (reach ask files))) _ h) k

pub no_fault_at : (ask : Ask) (files : Snapshot) (path : List ℕ) → all_faults ask files ≡ [] → Has (reach ask files) path → faults_at ask.options files path ≡ []
no_fault_at ask files path h k = no_fault_among ask files path h (reached_member ask files path k)

-- ---- modules

module _ (options : Options) (files : Snapshot) (path : List ℕ) where
  made_by : (source : List ℕ) (r : Result Transformed SourceFault) → made_faults options files path r ≡ [] → (output : Output) × (result_ok (output_made options.strip (kind_of path) source r) ≡ Some output)
  made_by source (Ok t) h = (_, refl)
  made_by source (Err f) h = cc

  output_by : (s : Option (List ℕ)) → option_map_or (made_faults options files path) (option_map (transformed options.strip (kind_of path)) s) (EntryMissing path ∷ []) ≡ []
      → (output : Output) × (option_and_then result_ok (option_map (output_of options.strip (kind_of path)) s) ≡ Some output)
  output_by None h = cc
  output_by (Some source) h = made_by source (transformed options.strip (kind_of path) source) h

  pub module_there : (numbering : List (List ℕ)) → faults_at options files path ≡ [] → (m : Module) × (module_at options numbering files path ≡ Some m)
  module_there numbering h = let o = output_by (source_at files path) h in (module_with options numbering files path o.0, ap (option_map (module_with options numbering files path)) o.1)

-- each path that is reached has a module
pub reached_module : (ask : Ask) (numbering : List (List ℕ)) (files : Snapshot) (path : List ℕ) → all_faults ask files ≡ [] → Has (reach ask files) path → (m : Module) × (module_at ask.options numbering files path ≡ Some m)
reached_module ask numbering files path h k = module_there ask.options files path numbering (no_fault_at ask files path h k)
