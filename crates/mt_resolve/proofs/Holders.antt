-- A folder and the folders above it.
use Rattle.std.proofs.Common.{◌≡◌, ◌∙◌, ◌-◌, ◌≤◌, ◌==◌, ℕ, zero, suc, Bool, true, false, not, cond, List, [], ◌∷◌, ◌++◌, filter, length, take, Option, Some, None, refl, ap, sym, subst, arith, append-nil}
use Rattle.std.specs.Prelude.{option_and_then, codes}
use Rattle.std.specs.Option.{option_map_or}
use Rattle.std.specs.List.{cons_option, filter_map, flat_map}
use Rattle.std.specs.Str.{bytes_eq}
use Rattle.std.proofs.lemmas.List.{take-take}
use Rattle.std.proofs.Math.Seq.{take-length}
use Rattle.mt_path.specs.Segments.{segments_of, slash, text_of}
use Rattle.mt_path.specs.Parse.{IsPath}
use Rattle.mt_path.specs.Names.{folder_of, is_root, name_of, without_last}
use Rattle.mt_path.specs.Children.{child_of}
use Rattle.mt_path.specs.Join.{joined}
use Rattle.mt_path.proofs.Folders.{text_of_segments}
use Rattle.mt_path.proofs.Segments.{is_root_by_segments, segments_of_folder}
use Rattle.mt_package.specs.declared.options.Options.{Options}
use Rattle.mt_files.specs.Snapshots.{Snapshot}
use Rattle.mt_files.specs.Resolve.{Candidate, folders_up, kept_in, path_for}
use Rattle.mt_files.proofs.PathLists.{same_path}
use Rattle.mt_resolve.specs.Searches.{held_by, held_from}

folders_take : (k n : ℕ) (ss : List (List ℕ)) → k ≤ n → folders_up k (take n ss) ≡ folders_up k ss
folders_take zero n ss h = refl
folders_take (suc k) n ss h = ap (λ t. text_of t ∷ folders_up k (take n ss)) (take-take (suc k) n ss h) ∙ ap (λ fs. text_of (take (suc k) ss) ∷ fs) (folders_take k n ss (omega arith))

-- of a folder with a segment
folders_step : (n : ℕ) (ss : List (List ℕ)) → length ss ≡ suc n → folders_up (length ss) ss ≡ text_of ss ∷ folders_up (length (without_last ss)) (without_last ss)
folders_step n ss h =
    let whole : take (suc n) ss ≡ ss = ap (λ k. take k ss) (sym h) ∙ take-length ss in
    let less : without_last ss ≡ take n ss = ap (λ k. take k ss) (ap (λ k. k - 1) h ∙ minus_one n) in
    let few : length (without_last ss) ≡ n = ap length less ∙ length_take n ss (omega arith) in
    ap (λ k. folders_up k ss) h ∙ ap (λ t. text_of t ∷ folders_up n ss) whole
    ∙ ap (λ fs. text_of ss ∷ fs) (sym (folders_take n n ss (omega arith)) ∙ ap (λ k. folders_up k (take n ss)) (sym few) ∙ ap (λ ts. folders_up (length (without_last ss)) ts) (sym less))
  where
    minus_one : (n : ℕ) → suc n - 1 ≡ n
    minus_one n = omega arith

    length_take : (n : ℕ) (ss : List (List ℕ)) → n ≤ length ss → length (take n ss) ≡ n
    length_take zero ss h = refl
    length_take (suc n) [] h = absurd (omega arith)
    length_take (suc n) (s ∷ ss) h = let e = length_take n ss (omega arith) in omega arith

held_cons :
    (f : List ℕ → List Candidate) (g : List ℕ → Option (List ℕ)) (b : Bool) (o : Option (List ℕ)) (x : List ℕ) (xs : List (List ℕ)) → o ≡ g x
    → flat_map f (filter_map g (cond (not b) (x ∷ xs) xs)) ≡ cond b [] (option_map_or f o []) ++ flat_map f (filter_map g xs)
held_cons f g true o x xs e = refl
held_cons f g false None x xs e = ap (λ p. flat_map f (cons_option p (filter_map g xs))) (sym e)
held_cons f g false (Some p) x xs e = ap (λ p. flat_map f (cons_option p (filter_map g xs))) (sym e)

positive : (n : ℕ) → (n == 0) ≡ false → (m : ℕ) × (n ≡ suc m)
positive zero h = absurd (cc)
positive (suc n) h = (n, refl)

-- what is kept beside the modules of a folder comes before what is kept above it
pub held_up :
    (options : Options) (files : Snapshot) (name folder : List ℕ) → IsPath folder → is_root folder ≡ false → held_from options files name folder ≡ held_by options files name folder ++ held_from options files name (folder_of folder)
held_up options files name folder p r =
    let n = positive (length (segments_of folder)) (sym (is_root_by_segments folder p) ∙ r) in
    let ups : folders_up (length (segments_of folder)) (segments_of folder) ≡ folder ∷ folders_up (length (segments_of (folder_of folder))) (segments_of (folder_of folder)) =
    folders_step n.0 (segments_of folder) n.1 ∙ ap (λ t. t ∷ folders_up (length (without_last (segments_of folder))) (without_last (segments_of folder))) (text_of_segments folder p)
    ∙ ap (λ ss. folder ∷ folders_up (length ss) ss) (sym (segments_of_folder folder p)) in
    ap (λ fs. flat_map (path_for options files name) (filter_map (kept_in name) (filter (λ above. not (bytes_eq (name_of above) (codes "node_modules"))) fs))) ups
    ∙ held_cons (path_for options files name) (kept_in name) (bytes_eq (name_of folder) (codes "node_modules")) (kept_in name folder) folder _ refl

-- above the root there is nothing
pub held_at_root : (options : Options) (files : Snapshot) (name folder : List ℕ) → is_root folder ≡ true → held_from options files name folder ≡ held_by options files name folder
held_at_root options files name folder r =
    subst (λ f. held_from options files name f ≡ held_by options files name f) (sym (same_path folder (slash ∷ []) r))
    (held_cons (path_for options files name) (kept_in name) (bytes_eq (name_of (slash ∷ [])) (codes "node_modules")) (kept_in name (slash ∷ [])) (slash ∷ []) [] refl
    ∙ append-nil (held_by options files name (slash ∷ [])))

-- fewer segments
pub fewer : (folder : List ℕ) → IsPath folder → is_root folder ≡ false → suc (length (segments_of (folder_of folder))) ≤ length (segments_of folder)
fewer folder p r =
    let n = positive (length (segments_of folder)) (sym (is_root_by_segments folder p) ∙ r) in
    let few = length_less (segments_of folder) n.0 n.1 in
    let e = ap length (segments_of_folder folder p) in
    omega arith
  where
    length_take_le : (n : ℕ) (ss : List (List ℕ)) → length (take n ss) ≤ n
    length_take_le zero ss = omega arith
    length_take_le (suc n) [] = omega arith
    length_take_le (suc n) (s ∷ ss) = let e = length_take_le n ss in omega arith

    length_less : (ss : List (List ℕ)) (n : ℕ) → length ss ≡ suc n → length (without_last ss) ≤ n
    length_less ss n h = let e = length_take_le (length ss - 1) ss in omega arith

-- what a name may mean that is kept beside the modules of a folder that isn't named `node_modules`
pub held_there :
    (options : Options) (files : Snapshot) (name folder : List ℕ) (modules : Option (List ℕ)) → bytes_eq (name_of folder) (codes "node_modules") ≡ false → modules ≡ child_of folder (codes "node_modules")
    → option_map_or (path_for options files name) (option_and_then (λ m. joined m name) modules) [] ≡ held_by options files name folder
held_there options files name folder modules n e =
    ap (λ o. option_map_or (path_for options files name) (option_and_then (λ m. joined m name) o) []) e
    ∙ ap (λ b. cond b [] (option_map_or (path_for options files name) (kept_in name folder) [])) (sym n)
