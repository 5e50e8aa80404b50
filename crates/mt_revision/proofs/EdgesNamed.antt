-- The edges that a revision's slots name are those of the fresh graph.
use Rattle.std.proofs.Common.{◌≡◌, ◌∙◌, ℕ, Bool, true, false, ◌||◌, cond, List, [], ◌∷◌, map, Option, Some, None, Ok, refl, ap, sym, subst}
use Rattle.std.specs.List.{list_any, AllByRecursion}
use Rattle.std.specs.List.Sorted.{IsStrictlySortedBy}
use Rattle.std.specs.Str.{bytes_eq}
use Rattle.std.specs.Ordering.{nat_cmp, eq_by_cmp, is_eq}
use Rattle.std.specs.Cmp.{nat_cmp_total, unsigned_tied}
use Rattle.std.specs.Cmp.Lexicographic.{slice_cmp, nat_list_cmp_total}
use Rattle.std.specs.FinMap.{entries, find, get, get-entries, get-from_entries, nat_cmp-IsAntisymmetric, same_map, slice_cmp-IsAntisymmetric}
use Rattle.std.specs.declared.cmp.Ordering.TheVariants.{Less}
use Rattle.std.proofs.lemmas.Bool.{or_right}
use Rattle.std.proofs.lemmas.Cmp.{nat_eq_equiv}
use Rattle.std.proofs.lemmas.Map.Keys.{sorted_head, sorted_tail}
use Rattle.std.proofs.lemmas.Map.Text.{is_eq-slice_cmp}
use Rattle.mt_containers.proofs.Tables.{keys_sorted}
use Rattle.mt_files.specs.Asks.{Ask}
use Rattle.mt_files.specs.Snapshots.{Snapshot}
use Rattle.mt_files.specs.Edges.{edges}
use Rattle.mt_files.specs.Reach.{reach}
use Rattle.mt_files.specs.Fresh.{decided, edges_of, fresh}
use Rattle.mt_files.proofs.PathLists.{Has, has_self, same_path}
use Rattle.mt_revision.specs.Numberings.{number_in}
use Rattle.mt_revision.specs.Contents.{HasContent, edges_named, paths_under}
use Rattle.mt_revision.specs.declared.modules.Module.{Module}
use Rattle.mt_revision.specs.declared.revision.Revision.{Revision}
use Rattle.mt_revision.proofs.Contents.{content_edges, content_module, module_found, module_path, modules_of}
use Rattle.mt_revision.proofs.Faultless.{reached_module}
use Rattle.mt_revision.proofs.Sets.{same_number}

-- what a list of paths finds
found_by : (v w : List (List ℕ)) (b : Bool) (o r : Option (List (List ℕ))) → (b ≡ true → v ≡ w) → o ≡ r → cond b (Some v) o ≡ cond b (Some w) r
found_by v w true o r h e = ap Some (h refl)
found_by v w false o r h e = e

or_cond : (b c : Bool) (v : List (List ℕ)) → cond b (Some v) (cond c (Some v) None) ≡ cond (b || c) (Some v) None
or_cond true c v = refl
or_cond false c v = refl

find_made : (f : List ℕ → List (List ℕ)) (ps : List (List ℕ)) (q : List ℕ) → find (slice_cmp nat_cmp) q (map (λ p. (p, f p)) ps) ≡ cond (list_any (bytes_eq q) ps) (Some (f q)) None
find_made f [] q = refl
find_made f (p ∷ ps) q =
    ap (λ b. cond b (Some (f p)) (find (slice_cmp nat_cmp) q (map (λ x. (x, f x)) ps))) (is_eq-slice_cmp q p)
    ∙ found_by (f p) (f q) (bytes_eq q p) (find (slice_cmp nat_cmp) q (map (λ x. (x, f x)) ps)) (cond (list_any (bytes_eq q) ps) (Some (f q)) None) (λ e. sym (ap f (same_path q p e))) (find_made f ps q)
    ∙ or_cond (bytes_eq q p) (list_any (bytes_eq q) ps) (f q)

-- ---- ascending entries

not_below : (k : ℕ) (es : List (ℕ × Module)) → AllByRecursion (λ y. nat_cmp k y ≡ Less) (map (λ e. e.0) es) → find nat_cmp k es ≡ None
not_below k [] h = refl
not_below k (e ∷ es) h = ap (λ o. cond (is_eq o) (Some e.1) (find nat_cmp k es)) h.0 ∙ not_below k es h.1

later_by : (n k : ℕ) (x m : Module) (es : List (ℕ × Module)) (b : Bool) → eq_by_cmp nat_cmp n k ≡ b → AllByRecursion (λ y. nat_cmp k y ≡ Less) (map (λ e. e.0) es) → find nat_cmp n es ≡ Some m → cond b (Some x) (find nat_cmp n es) ≡ Some m
later_by n k x m es true e h f =
    let s : find nat_cmp n es ≡ None = ap (λ z. find nat_cmp z es) (same_number n k (sym (unsigned_tied n k) ∙ e)) ∙ not_below k es h in
    let c : None ≡ Some m = sym s ∙ f in
    cc
later_by n k x m es false e h f = f

-- what is found in the rest is found in the whole
later : (n : ℕ) (e : ℕ × Module) (es : List (ℕ × Module)) (m : Module) → IsStrictlySortedBy nat_cmp (map (λ x. x.0) (e ∷ es)) → find nat_cmp n es ≡ Some m → find nat_cmp n (e ∷ es) ≡ Some m
later n e es m s f = later_by n e.0 e.1 m es (eq_by_cmp nat_cmp n e.0) refl (sorted_head nat_cmp e.0 (map (λ x. x.0) es) s) f

self_tied : (n : ℕ) → eq_by_cmp nat_cmp n n ≡ true
self_tied n = unsigned_tied n n ∙ nat_eq_equiv.refl n

first_found : (e : ℕ × Module) (es : List (ℕ × Module)) → find nat_cmp e.0 (e ∷ es) ≡ Some e.1
first_found e es = ap (λ b. cond b (Some e.1) (find nat_cmp e.0 es)) (self_tied e.0)

-- ---- what slots name

module _ (numbering : List (List ℕ)) (f : List ℕ → List (List ℕ)) where
  -- whether one of the modules is at a path
  abbrev at_path : List ℕ → List (ℕ × Module) → Bool
  at_path p es = list_any (λ e. bytes_eq p e.1.path) es

  named_found : (p : List ℕ) (es : List (ℕ × Module)) → IsStrictlySortedBy nat_cmp (map (λ e. e.0) es) → ((n : ℕ) (m : Module) → find nat_cmp n es ≡ Some m → paths_under numbering m ≡ f m.path)
      → find (slice_cmp nat_cmp) p (map (λ e. (e.1.path, paths_under numbering e.1)) es) ≡ cond (at_path p es) (Some (f p)) None
  named_found p [] s h = refl
  named_found p (e ∷ es) s h =
      let rest = map (λ x. (x.1.path, paths_under numbering x.1)) es in
      ap (λ b. cond b (Some (paths_under numbering e.1)) (find (slice_cmp nat_cmp) p rest)) (is_eq-slice_cmp p e.1.path)
      ∙ found_by (paths_under numbering e.1) (f p) (bytes_eq p e.1.path) (find (slice_cmp nat_cmp) p rest) (cond (at_path p es) (Some (f p)) None)
      (λ k. h e.0 e.1 (first_found e es) ∙ sym (ap f (same_path p e.1.path k)))
      (named_found p es (sorted_tail nat_cmp e.0 (map (λ x. x.0) es) s) (λ n m k. h n m (later n e es m s k)))
      ∙ or_cond (bytes_eq p e.1.path) (at_path p es) (f p)

at_by : (p : List ℕ) (n : ℕ) (m : Module) (x : Module) (es : List (ℕ × Module)) (b : Bool) → m.path ≡ p → cond b (Some x) (find nat_cmp n es) ≡ Some m → (find nat_cmp n es ≡ Some m → list_any (λ e. bytes_eq p e.1.path) es ≡ true) → (bytes_eq p x.path || list_any (λ e. bytes_eq p e.1.path) es) ≡ true
at_by p n m x es true e h k =
    let i : x ≡ m = cc in
    ap (λ q. bytes_eq p q || list_any (λ e. bytes_eq p e.1.path) es) (ap (λ z. z.path) i ∙ e) ∙ ap (λ b. b || list_any (λ e. bytes_eq p e.1.path) es) (has_self p)
at_by p n m x es false e h k = or_right (bytes_eq p x.path) (list_any (λ e. bytes_eq p e.1.path) es) (k h)

-- a module that is found is at its path
at_found : (p : List ℕ) (n : ℕ) (m : Module) (es : List (ℕ × Module)) → m.path ≡ p → find nat_cmp n es ≡ Some m → list_any (λ e. bytes_eq p e.1.path) es ≡ true
at_found p n m [] e h = cc
at_found p n m (x ∷ es) e h = at_by p n m x.1 es (eq_by_cmp nat_cmp n x.0) e h (at_found p n m es e)

has_by : (p : List ℕ) (n : ℕ) (e : ℕ × Module) (es : List (ℕ × Module)) (P : List ℕ → Type 0) (b r : Bool) → bytes_eq p e.1.path ≡ b → P e.1.path → (r ≡ true → P p) → (b || r) ≡ true → P p
has_by p n e es P true r i h k o = subst P (sym (same_path p e.1.path i)) h
has_by p n e es P false r i h k o = k o

-- a path at which there is a module has what each path of a module has
has_at : (P : List ℕ → Type 0) (p : List ℕ) (es : List (ℕ × Module)) → IsStrictlySortedBy nat_cmp (map (λ e. e.0) es) → ((n : ℕ) (m : Module) → find nat_cmp n es ≡ Some m → P m.path) → list_any (λ e. bytes_eq p e.1.path) es ≡ true → P p
has_at P p [] s h k = cc
has_at P p (e ∷ es) s h k =
    has_by p e.0 e es P (bytes_eq p e.1.path) (list_any (λ x. bytes_eq p x.1.path) es) refl (h e.0 e.1 (first_found e es))
    (has_at P p es (sorted_tail nat_cmp e.0 (map (λ x. x.0) es) s) (λ n m i. h n m (later n e es m s i))) k

same_test : (a b : Bool) → (a ≡ true → b ≡ true) → (b ≡ true → a ≡ true) → a ≡ b
same_test true b h k = sym (h refl)
same_test false true h k = k refl
same_test false false h k = refl

module _ (ask : Ask) (r : Revision) (numbering : List (List ℕ)) (files : Snapshot) (content : HasContent ask r numbering files) where
  ascending_entries : IsStrictlySortedBy nat_cmp (map (λ e. e.0) (entries r.modules))
  ascending_entries = keys_sorted nat_cmp r.modules

  there : (n : ℕ) (m : Module) → find nat_cmp n (entries r.modules) ≡ Some m → get r.modules n ≡ Some m
  there n m h = get-entries r.modules n ∙ h

  reached_at : (p : List ℕ) → list_any (λ e. bytes_eq p e.1.path) (entries r.modules) ≡ true → Has (reach ask files) p
  reached_at p h = has_at (Has (reach ask files)) p (entries r.modules) ascending_entries (λ n m k. let c = content_module ask r numbering files content n m (there n m k) in subst (Has (reach ask files)) (sym (module_path ask.options numbering files c.0 m c.1.1.1)) c.1.0) h

  found_at : (p : List ℕ) → Has (reach ask files) p → list_any (λ e. bytes_eq p e.1.path) (entries r.modules) ≡ true
  found_at p h =
      let m = reached_module ask numbering files p content.faultless h in
      let found = module_found ask.options numbering files p m.0 (reach ask files) content.numbered h m.1 in
      at_found p (number_in numbering p) m.0 (entries r.modules) (module_path ask.options numbering files p m.0 m.1)
      (sym (get-entries r.modules (number_in numbering p)) ∙ ap (λ z. get z (number_in numbering p)) content.modules ∙ get-from_entries nat_cmp_total (modules_of ask.options numbering files (reach ask files)) (number_in numbering p) ∙ found)

  same_edges : edges_of ask.options files (reach ask files) ≡ edges_named numbering r
  same_edges =
      same_map nat_list_cmp_total (slice_cmp-IsAntisymmetric nat_cmp-IsAntisymmetric) (edges_of ask.options files (reach ask files)) (edges_named numbering r) (λ p.
      get-from_entries nat_list_cmp_total (map (λ q. (q, edges ask.options files q)) (reach ask files)) p
      ∙ find_made (edges ask.options files) (reach ask files) p
      ∙ ap (λ b. cond b (Some (edges ask.options files p)) None) (same_test (list_any (bytes_eq p) (reach ask files)) (list_any (λ e. bytes_eq p e.1.path) (entries r.modules)) (found_at p) (reached_at p))
      ∙ sym (named_found numbering (edges ask.options files) p (entries r.modules) ascending_entries (λ n m k. content_edges ask r numbering files content n m (there n m k)))
      ∙ sym (get-from_entries nat_list_cmp_total (map (λ e. (e.1.path, paths_under numbering e.1)) (entries r.modules)) p))

  -- the fresh graph is what its slots name
  pub content_graph : fresh ask files ≡ Ok (edges_named numbering r)
  content_graph = ap (decided (edges_of ask.options files (reach ask files))) content.faultless ∙ ap Ok same_edges
