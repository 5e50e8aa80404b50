-- The texts that a revision holds, and its bundle.
use Rattle.std.proofs.Common.{◌≡◌, ◌<◌, ◌+◌, ◌∙◌, ℕ, suc, Bool, true, false, cond, List, [], ◌∷◌, ◌++◌, map, slice_get, Option, Some, None, refl, ap, sym, arith}
use Rattle.std.specs.List.{cons_option, flat_map, list_all, IsDistinct, AllByRecursion}
use Rattle.std.specs.List.Sorted.{IsStrictlySortedBy}
use Rattle.std.specs.Option.{option_map, option_map_or}
use Rattle.std.specs.Str.{bytes_eq}
use Rattle.std.specs.Ordering.{nat_cmp, eq_by_cmp}
use Rattle.std.specs.Cmp.{nat_cmp_total, unsigned_tied}
use Rattle.std.specs.FinMap.{entries, find, from_entries, get, get-from_entries, nat_cmp-IsAntisymmetric, same_map}
use Rattle.std.specs.declared.cmp.Ordering.{Ordering}
use Rattle.std.specs.declared.cmp.Ordering.TheVariants.{Less}
use Rattle.std.proofs.lemmas.List.Kept.{IsStrictlySortedBy-filter}
use Rattle.mt_containers.proofs.Tables.{entries_by}
use Rattle.mt_package.specs.declared.options.Options.{Options}
use Rattle.mt_files.specs.Asks.{Ask}
use Rattle.mt_files.specs.Snapshots.{Snapshot}
use Rattle.mt_files.specs.Reach.{reach}
use Rattle.mt_files.proofs.PathLists.{Has, all_at, filter_has, has_filter, has_head, has_tail}
use Rattle.mt_write.specs.Bundle.{prelude}
use Rattle.mt_write.specs.Modules.{start_of}
use Rattle.mt_revision.specs.Numberings.{has_path, number_in}
use Rattle.mt_revision.specs.Texts.{text_in}
use Rattle.mt_revision.specs.Revisions.{bundle_of, held_of}
use Rattle.mt_revision.specs.Contents.{HasContent, bundle_at, by_number, held_at, module_at, modules_at, text_at}
use Rattle.mt_revision.specs.declared.modules.Module.{Module}
use Rattle.mt_revision.specs.declared.revision.Revision.{Revision}
use Rattle.mt_revision.proofs.Numbers.{number_at_place}
use Rattle.mt_revision.proofs.Contents.{all_from, module_found, module_under, modules_of}
use Rattle.mt_revision.proofs.Faultless.{reached_module}
use Rattle.mt_revision.proofs.Sets.{less_is, same_number}
use Rattle.mt_revision.proofs.Touches as touches

-- two findings that agree on what is found agree
same_found : {X : Type 0} (a b : Option X) → ((x : X) → a ≡ Some x → b ≡ Some x) → ((x : X) → b ≡ Some x → a ≡ Some x) → a ≡ b
same_found None None h k = refl
same_found None (Some y) h k = k y refl
same_found (Some x) b h k = sym (h x refl)

module _ (options : Options) (numbering : List (List ℕ)) (files : Snapshot) where
  -- ---- what is held

  -- the texts of paths under their numbers
  abbrev texts_under : List (List ℕ) → List (ℕ × List ℕ)
  texts_under ps = map (λ path. (number_in numbering path, text_at options numbering files path)) ps

  text_by : (n k : ℕ) (m : Module) (left : Option Module) (right : Option (List ℕ)) (b : Bool) → eq_by_cmp nat_cmp n k ≡ b → option_map (text_in options.dev n) left ≡ right
      → option_map (text_in options.dev n) (cond b (Some m) left) ≡ cond b (Some (text_in options.dev k m)) right
  text_by n k m left right true e h = ap (λ z. Some (text_in options.dev z m)) (same_number n k (sym (unsigned_tied n k) ∙ e))
  text_by n k m left right false e h = h

  -- the text that is found under a number is that of the module that is found there
  text_found : (n : ℕ) (ps : List (List ℕ)) → ((p : List ℕ) → Has ps p → (m : Module) × (module_at options numbering files p ≡ Some m))
      → option_map (text_in options.dev n) (find nat_cmp n (modules_of options numbering files ps)) ≡ find nat_cmp n (texts_under ps)
  text_found n [] h = refl
  text_found n (p ∷ ps) h =
      let k = number_in numbering p in
      let m = h p (has_head p ps) in
      ap (λ o. option_map (text_in options.dev n) (find nat_cmp n (cons_option (option_map (λ x. (k, x)) o) (modules_of options numbering files ps)))) m.1
      ∙ text_by n k m.0 (find nat_cmp n (modules_of options numbering files ps)) (find nat_cmp n (texts_under ps)) (eq_by_cmp nat_cmp n k) refl (text_found n ps (λ q i. h q (has_tail p q ps i)))
      ∙ sym (ap (λ o. cond (eq_by_cmp nat_cmp n k) (Some (option_map_or (text_in options.dev k) o [])) (find nat_cmp n (texts_under ps))) m.1)

  -- ---- by ascending number

  -- the order of paths by their numbers
  abbrev by : List ℕ → List ℕ → Ordering
  by p q = nat_cmp (number_in numbering p) (number_in numbering q)

  less_by : (a b : ℕ) → a < b → nat_cmp a b ≡ Less
  less_by a b w = less_is a b w

  next_place : (ps qs : List (List ℕ)) (q : List ℕ) (a : ℕ) → ((i : ℕ) → slice_get ps (a + i) ≡ slice_get (q ∷ qs) i) → (i : ℕ) → slice_get ps ((a + 1) + i) ≡ slice_get qs i
  next_place ps qs q a h i = let e : (a + 1) + i ≡ a + suc i = omega arith in ap (slice_get ps) e ∙ h (suc i)

  here_place : (ps qs : List (List ℕ)) (q : List ℕ) (a : ℕ) → ((i : ℕ) → slice_get ps (a + i) ≡ slice_get (q ∷ qs) i) → slice_get ps a ≡ Some q
  here_place ps qs q a h = let z : a ≡ a + 0 = omega arith in ap (slice_get ps) z ∙ h 0

  above_from : (p : List ℕ) (qs : List (List ℕ)) (b a : ℕ) → IsDistinct bytes_eq numbering → number_in numbering p ≡ b → b < a → ((i : ℕ) → slice_get numbering (a + i) ≡ slice_get qs i) → AllByRecursion (λ q. by p q ≡ Less) qs
  above_from p [] b a d e w h = tt
  above_from p (q ∷ qs) b a d e w h =
      let n = number_at_place numbering a q d (here_place numbering qs q a h) in
      (less_by (number_in numbering p) (number_in numbering q) (omega (arith, n, e, w)), above_from p qs b (a + 1) d e (omega (arith, w)) (next_place numbering qs q a h))

  sorted_from : (qs : List (List ℕ)) (a : ℕ) → IsDistinct bytes_eq numbering → ((i : ℕ) → slice_get numbering (a + i) ≡ slice_get qs i) → IsStrictlySortedBy by qs
  unfolding IsStrictlySortedBy
  sorted_from [] a d h = tt
  sorted_from (q ∷ qs) a d h = (above_from q qs a (a + 1) d (number_at_place numbering a q d (here_place numbering qs q a h)) (omega arith) (next_place numbering qs q a h), sorted_from qs (a + 1) d (next_place numbering qs q a h))

  from_start : (i : ℕ) → slice_get numbering (0 + i) ≡ slice_get numbering i
  from_start i = let e : 0 + i ≡ i = omega arith in ap (slice_get numbering) e

  -- a numbering in which no path is twice ascends by number
  sorted_numbering : IsDistinct bytes_eq numbering → IsStrictlySortedBy by numbering
  sorted_numbering d = sorted_from numbering 0 d from_start

  above_by : (b a : ℕ) (o : Option Module) (r : List (ℕ × Module)) → nat_cmp b a ≡ Less → AllByRecursion (λ y. nat_cmp b y ≡ Less) (map (λ e. e.0) r) → AllByRecursion (λ y. nat_cmp b y ≡ Less) (map (λ e. e.0) (cons_option (option_map (λ m. (a, m)) o) r))
  above_by b a None r w h = h
  above_by b a (Some m) r w h = (w, h)

  above_all : (p : List ℕ) (ps : List (List ℕ)) → AllByRecursion (λ q. by p q ≡ Less) ps → AllByRecursion (λ y. nat_cmp (number_in numbering p) y ≡ Less) (map (λ e. e.0) (modules_of options numbering files ps))
  above_all p [] h = tt
  above_all p (q ∷ qs) h = above_by (number_in numbering p) (number_in numbering q) (module_at options numbering files q) (modules_of options numbering files qs) h.0 (above_all p qs h.1)

  sorted_by : (a : ℕ) (o : Option Module) (r : List (ℕ × Module)) → AllByRecursion (λ y. nat_cmp a y ≡ Less) (map (λ e. e.0) r) → IsStrictlySortedBy nat_cmp (map (λ e. e.0) r) → IsStrictlySortedBy nat_cmp (map (λ e. e.0) (cons_option (option_map (λ m. (a, m)) o) r))
  unfolding IsStrictlySortedBy
  sorted_by a None r h s = s
  sorted_by a (Some m) r h s = (h, s)

  sorted_nothing : IsStrictlySortedBy nat_cmp []
  unfolding IsStrictlySortedBy
  sorted_nothing = tt

  -- so do its modules
  sorted_modules : (ps : List (List ℕ)) → IsStrictlySortedBy by ps → IsStrictlySortedBy nat_cmp (map (λ e. e.0) (modules_of options numbering files ps))
  unfolding IsStrictlySortedBy
  sorted_modules [] s = sorted_nothing
  sorted_modules (p ∷ ps) s = sorted_by (number_in numbering p) (module_at options numbering files p) (modules_of options numbering files ps) (above_all p ps s.0) (sorted_modules ps s.1)

  texts_by : (k : ℕ) (o : Option Module) (r : List (ℕ × Module)) → flat_map (λ e. text_in options.dev e.0 e.1) (cons_option (option_map (λ m. (k, m)) o) r) ≡ option_map_or (text_in options.dev k) o [] ++ flat_map (λ e. text_in options.dev e.0 e.1) r
  texts_by k None r = refl
  texts_by k (Some m) r = refl

  -- the texts of modules are those at their paths
  texts_of_paths : (ps : List (List ℕ)) → flat_map (λ e. text_in options.dev e.0 e.1) (modules_of options numbering files ps) ≡ flat_map (text_at options numbering files) ps
  texts_of_paths [] = refl
  texts_of_paths (p ∷ ps) = texts_by (number_in numbering p) (module_at options numbering files p) (modules_of options numbering files ps) ∙ ap (λ z. text_at options numbering files p ++ z) (texts_of_paths ps)

  -- two lists of the same numbered paths have the same modules under each number
  same_modules : (ps qs : List (List ℕ)) → list_all (has_path numbering) ps ≡ true → list_all (has_path numbering) qs ≡ true → ((p : List ℕ) → Has ps p → Has qs p) → ((p : List ℕ) → Has qs p → Has ps p)
      → (n : ℕ) → find nat_cmp n (modules_of options numbering files ps) ≡ find nat_cmp n (modules_of options numbering files qs)
  same_modules ps qs a b f g n =
      same_found _ _
      (λ m e. let r = module_under options numbering files n ps m e in ap (λ z. find nat_cmp z (modules_of options numbering files qs)) (sym r.1.1.0) ∙ module_found options numbering files r.0 m qs b (f r.0 r.1.0) r.1.1.1)
      (λ m e. let r = module_under options numbering files n qs m e in ap (λ z. find nat_cmp z (modules_of options numbering files ps)) (sym r.1.1.0) ∙ module_found options numbering files r.0 m ps a (g r.0 r.1.0) r.1.1.1)

-- ---- a revision that has content

module _ (ask : Ask) (r : Revision) (numbering : List (List ℕ)) (files : Snapshot) (content : HasContent ask r numbering files) where
  -- it holds the texts of the modules that are reached
  pub content_held : held_of r ≡ held_at ask numbering files
  content_held =
      same_map nat_cmp_total nat_cmp-IsAntisymmetric (held_of r) (held_at ask numbering files) (λ n.
      touches.text_at r.dev r.modules n
      ∙ ap (λ d. option_map (text_in d n) (get r.modules n)) content.dev
      ∙ ap (λ z. option_map (text_in ask.options.dev n) (get z n)) content.modules
      ∙ ap (option_map (text_in ask.options.dev n)) (get-from_entries nat_cmp_total (modules_of ask.options numbering files (reach ask files)) n)
      ∙ text_found ask.options numbering files n (reach ask files) (λ p h. reached_module ask numbering files p content.faultless h)
      ∙ sym (get-from_entries nat_cmp_total (texts_under ask.options numbering files (reach ask files)) n))

  there : (p : List ℕ) → Has (reach ask files) p → Has (by_number ask numbering files) p
  there p h = filter_has (has_path (reach ask files)) numbering p (all_at (has_path numbering) (reach ask files) p content.numbered h) h

  -- its modules are those of the paths by ascending number
  ordered : r.modules ≡ from_entries (modules_of ask.options numbering files (by_number ask numbering files))
  ordered =
      content.modules
      ∙ same_map nat_cmp_total nat_cmp-IsAntisymmetric (modules_at ask numbering files) (from_entries (modules_of ask.options numbering files (by_number ask numbering files))) (λ n.
      get-from_entries nat_cmp_total (modules_of ask.options numbering files (reach ask files)) n
      ∙ same_modules ask.options numbering files (reach ask files) (by_number ask numbering files) content.numbered (all_from (has_path numbering) (by_number ask numbering files) (λ q h. (has_filter (has_path (reach ask files)) numbering q h).0)) there (λ p h. (has_filter (has_path (reach ask files)) numbering p h).1) n
      ∙ sym (get-from_entries nat_cmp_total (modules_of ask.options numbering files (by_number ask numbering files)) n))

  -- by ascending number
  pub content_listed : IsDistinct bytes_eq numbering → entries r.modules ≡ modules_of ask.options numbering files (by_number ask numbering files)
  content_listed d =
      ap entries ordered
      ∙ entries_by nat_cmp_total (modules_of ask.options numbering files (by_number ask numbering files))
      (sorted_modules ask.options numbering files (by_number ask numbering files) (IsStrictlySortedBy-filter (by ask.options numbering files) (has_path (reach ask files)) numbering (sorted_numbering ask.options numbering files d)))

  -- its bundle is that of the modules that are reached
  pub content_bundle : IsDistinct bytes_eq numbering → bundle_of r ≡ bundle_at ask numbering files
  content_bundle d =
      ap (λ z. prelude z ++ flat_map (λ e. text_in z e.0 e.1) (entries r.modules) ++ flat_map start_of r.entries) content.dev
      ∙ ap (λ es. prelude ask.options.dev ++ flat_map (λ e. text_in ask.options.dev e.0 e.1) es ++ flat_map start_of r.entries) (content_listed d)
      ∙ ap (λ t. prelude ask.options.dev ++ t ++ flat_map start_of r.entries) (texts_of_paths ask.options numbering files (by_number ask numbering files))
      ∙ ap (λ ns. prelude ask.options.dev ++ flat_map (text_at ask.options numbering files) (by_number ask numbering files) ++ flat_map start_of ns) content.entries
