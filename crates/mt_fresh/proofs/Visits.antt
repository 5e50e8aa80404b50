-- A traversal visits exactly the modules to which the seeds lead.
use Rattle.std.proofs.Common.{inl, inr, ◌⊎◌, ◌≡◌, ◌∙◌, ◌&&◌, ℕ, Bool, true, false, not, cond, List, [], ◌∷◌, map, Option, Some, None, is_some, refl, ap, sym, subst}
use Rattle.std.specs.List.{Contains, cons_option, filter_map}
use Rattle.std.specs.List.Sorted.{IsStrictlySortedBy}
use Rattle.std.specs.Option.{option_map, unwrap_or}
use Rattle.std.specs.Ordering.{nat_cmp, eq_by_cmp}
use Rattle.std.specs.Cmp.Lexicographic.{slice_cmp, nat_list_cmp_total}
use Rattle.std.specs.FinMap.{FinMap, contains_key, contains_key-keys, empty, entries, get, get-empty, get-insert, get-remove, insert, keys, remove}
use Rattle.std.specs.Str.{bytes_eq}
use Rattle.std.proofs.lemmas.Bool.{cases_Bool, and_parts, false≢true, not-true, cond-true, cond-false}
use Rattle.std.proofs.lemmas.Map.Text.{is_eq-slice_cmp}
use Rattle.mt_containers.specs.Explorations.{IsExplored, IsKnown}
use Rattle.mt_containers.proofs.Explorations.{explored_all, explored_empty, explored_turn}
use Rattle.mt_containers.proofs.Members.{any_contains, contains_any, contains_cases, contains_filter, contains_head, contains_none, contains_tail, filter_contains, same_or_apart, tie_decides}
use Rattle.mt_containers.proofs.Seens.{texts_antisymmetric}
use Rattle.mt_containers.proofs.Tables.{entries_by}
use Rattle.mt_package.specs.declared.options.Options.{Options}
use Rattle.mt_files.specs.Snapshots.{Snapshot, has_source, source_at}
use Rattle.mt_files.specs.PathSets.{with_paths}
use Rattle.mt_files.specs.Resolve.{file_of}
use Rattle.mt_files.specs.Fresh.{ascending}
use Rattle.mt_files.specs.declared.target.Link.{Link}
use Rattle.mt_files.specs.declared.target.Target.{Target}
use Rattle.mt_files.specs.declared.target.Target.TheVariants as target
use Rattle.mt_files.proofs.Ascending.{has_ascending}
use Rattle.mt_files.proofs.PathSets.{keys-with_paths}
use Rattle.mt_files.proofs.PathLists.{contains_has, has_contains, has_self, same_path}
use Rattle.mt_graph.specs.Founds.{files_of, found_at, found_in, links_of, made_of}
use Rattle.mt_graph.specs.Explored.{Known, explored, explored_paths, unknown, unknown_edges}
use Rattle.mt_graph.specs.declared.found.Found.{Found}
use Rattle.mt_graph.proofs.Explored.{explored_alone, explored_all as all_explored, explored_source, paths_ascending, reached_source}
use Rattle.mt_graph.proofs.Founds.{links_lead}
use Rattle.mt_fresh.specs.Visits.{VisitMap, found_of, is_new, visit_at, visit_of, visits_of, waiting_with, waiting_with_all}
use Rattle.mt_fresh.specs.declared.traversal.Visit.{Visit}

-- ---- the keys of a map

apart_or_same : (p q : List ℕ) → (p ≡ q) ⊎ (p ≡ q → ⊥)
apart_or_same p q = same_or_apart nat_list_cmp_total texts_antisymmetric p q

tie_false : (q p : List ℕ) → (q ≡ p → ⊥) → eq_by_cmp (slice_cmp nat_cmp) q p ≡ false
tie_false q p h = elim (cases_Bool (eq_by_cmp (slice_cmp nat_cmp) q p)) [
  | inl e ↦ absurd (h ((tie_decides nat_list_cmp_total texts_antisymmetric q p).0 e))
  | inr e ↦ e
]

module _ {X : Type 0} where
  -- a key stands among the keys where there is a value under it
  pub key_has : (m : FinMap (slice_cmp nat_cmp) X) (q : List ℕ) → Contains (keys m) q → is_some (get m q) ≡ true
  key_has m q h = contains_key-keys m q ∙ contains_any (eq_by_cmp (slice_cmp nat_cmp)) (tie_decides nat_list_cmp_total texts_antisymmetric) (keys m) q h

  pub has_key_at : (m : FinMap (slice_cmp nat_cmp) X) (q : List ℕ) → is_some (get m q) ≡ true → Contains (keys m) q
  has_key_at m q h = any_contains (eq_by_cmp (slice_cmp nat_cmp)) (tie_decides nat_list_cmp_total texts_antisymmetric) (keys m) q (sym (contains_key-keys m q) ∙ h)

  insert_here : (m : FinMap (slice_cmp nat_cmp) X) (p : List ℕ) (x : X) → get (insert m p x) p ≡ Some x
  insert_here m p x = get-insert nat_list_cmp_total m p x p ∙ cond-true (eq_by_cmp (slice_cmp nat_cmp) p p) (Some x) (get m p) (is_eq-slice_cmp p p ∙ has_self p)

  insert_apart : (m : FinMap (slice_cmp nat_cmp) X) (p q : List ℕ) (x : X) → (q ≡ p → ⊥) → get (insert m p x) q ≡ get m q
  insert_apart m p q x h = get-insert nat_list_cmp_total m p x q ∙ cond-false (eq_by_cmp (slice_cmp nat_cmp) q p) (Some x) (get m q) (tie_false q p h)

  remove_apart : (m : FinMap (slice_cmp nat_cmp) X) (p q : List ℕ) → (q ≡ p → ⊥) → get (remove m p) q ≡ get m q
  remove_apart m p q h = get-remove nat_list_cmp_total m p q ∙ cond-false (eq_by_cmp (slice_cmp nat_cmp) q p) None (get m q) (tie_false q p h)

  remove_less : (m : FinMap (slice_cmp nat_cmp) X) (p q : List ℕ) → is_some (get (remove m p) q) ≡ true → is_some (get m q) ≡ true
  remove_less m p q h = less (eq_by_cmp (slice_cmp nat_cmp) q p) (get m q) (sym (ap is_some (get-remove nat_list_cmp_total m p q)) ∙ h)
    where
      less : (b : Bool) (o : Option X) → is_some (cond b None o) ≡ true → is_some o ≡ true
      less true o h = absurd (false≢true h)
      less false o h = h

  insert_more : (m : FinMap (slice_cmp nat_cmp) X) (p q : List ℕ) (x : X) → is_some (get m q) ≡ true → is_some (get (insert m p x) q) ≡ true
  insert_more m p q x h = elim (apart_or_same q p) [
    | inl e ↦ ap is_some (ap (get (insert m p x)) e ∙ insert_here m p x)
    | inr n ↦ ap is_some (insert_apart m p q x n) ∙ h
  ]

  insert_before : (m : FinMap (slice_cmp nat_cmp) X) (p q : List ℕ) (x : X) → is_some (get (insert m p x) q) ≡ true → (q ≡ p) ⊎ (is_some (get m q) ≡ true)
  insert_before m p q x h = elim (apart_or_same q p) [
    | inl e ↦ inl e
    | inr n ↦ inr (sym (ap is_some (insert_apart m p q x n)) ∙ h)
  ]

-- ---- the paths that wait

-- a path waits
abbrev IsIn : Known → List ℕ → Type 0
IsIn w q = is_some (get w q) ≡ true

module _ (origin : List ℕ) (known : Known) (visits : VisitMap) where
  -- a path waits, or need not: it is the module itself, or known, or visited
  abbrev IsDone : Known → List ℕ → Type 0
  IsDone w q = IsIn w q ⊎ ((q ≡ origin) ⊎ ((IsIn known q) ⊎ (is_some (get visits q) ≡ true)))

  not_new : (w : Known) (p : List ℕ) → is_new origin known visits w p ≡ false → IsDone w p
  not_new w p h = elim (cases_Bool (bytes_eq p origin)) [
    | inl e ↦ inr (inl (same_path p origin e))
    | inr e ↦ elim (cases_Bool (contains_key known p)) [
      | inl k ↦ inr (inr (inl k))
      | inr k ↦ elim (cases_Bool (contains_key visits p)) [
        | inl v ↦ inr (inr (inr v))
        | inr v ↦ elim (cases_Bool (contains_key w p)) [
          | inl n ↦ inl n
          | inr n ↦
              let all : is_new origin known visits w p ≡ true = rw (e, k, v, n) refl in
              absurd (false≢true (sym h ∙ all))
        ]
      ]
    ]
  ]

  new_unknown : (w : Known) (p : List ℕ) → is_new origin known visits w p ≡ true → contains_key known p ≡ false
  new_unknown w p h =
      let a = and_parts (not (bytes_eq p origin) && not (contains_key known p) && not (contains_key visits p)) (not (contains_key w p)) h in
      let b = and_parts (not (bytes_eq p origin) && not (contains_key known p)) (not (contains_key visits p)) a.0 in
      let d = and_parts (not (bytes_eq p origin)) (not (contains_key known p)) b.0 in
      not-true (contains_key known p) d.1

  -- ---- one link

  with_more : (w : Known) (t : Target) (q : List ℕ) → IsIn w q → IsIn (waiting_with origin known visits w t) q
  with_more w (target.File p) q h = elim (cases_Bool (is_new origin known visits w p)) [
    | inl e ↦ subst (λ m. IsIn m q) (sym (cond-true (is_new origin known visits w p) (insert w p tt) w e)) (insert_more w p q tt h)
    | inr e ↦ subst (λ m. IsIn m q) (sym (cond-false (is_new origin known visits w p) (insert w p tt) w e)) h
  ]
  with_more w target.None q h = h
  with_more w (target.BadPackage p) q h = h

  -- what waits now waited, or is the source to which the link leads, which is not known
  with_before : (w : Known) (t : Target) (q : List ℕ) → IsIn (waiting_with origin known visits w t) q → IsIn w q ⊎ ((file_of t ≡ Some q) × (contains_key known q ≡ false))
  with_before w (target.File p) q h = elim (cases_Bool (is_new origin known visits w p)) [
    | inl e ↦ elim (insert_before w p q tt (subst (λ m. IsIn m q) (cond-true (is_new origin known visits w p) (insert w p tt) w e) h)) [
      | inl is ↦ inr (ap Some (sym is), ap (contains_key known) is ∙ new_unknown w p e)
      | inr old ↦ inl old
    ]
    | inr e ↦ inl (subst (λ m. IsIn m q) (cond-false (is_new origin known visits w p) (insert w p tt) w e) h)
  ]
  with_before w target.None q h = inl h
  with_before w (target.BadPackage p) q h = inl h

  done_more : (w : Known) (t : Target) (q : List ℕ) → IsDone w q → IsDone (waiting_with origin known visits w t) q
  done_more w t q (inl h) = inl (with_more w t q h)
  done_more w t q (inr h) = inr h

  with_file : (w : Known) (t : Target) (q : List ℕ) → file_of t ≡ Some q → IsDone (waiting_with origin known visits w t) q
  with_file w (target.File p) q h =
      let is : p ≡ q = cc in
      elim (cases_Bool (is_new origin known visits w p)) [
        | inl e ↦ inl (subst (λ m. IsIn m q) (sym (cond-true (is_new origin known visits w p) (insert w p tt) w e)) (ap is_some (ap (get (insert w p tt)) (sym is) ∙ insert_here w p tt)))
        | inr e ↦ subst (λ m. IsDone m q) (sym (cond-false (is_new origin known visits w p) (insert w p tt) w e)) (subst (IsDone w) is (not_new w p e))
      ]
  with_file w target.None q h = cc
  with_file w (target.BadPackage p) q h = cc

  -- ---- all links

  all_more : (w : Known) (links : List Link) (q : List ℕ) → IsIn w q → IsIn (waiting_with_all origin known visits w links) q
  all_more w [] q h = h
  all_more w (link ∷ links) q h = all_more (waiting_with origin known visits w link.target) links q (with_more w link.target q h)

  file_first : (o : Option (List ℕ)) (qs : List (List ℕ)) (q : List ℕ) → o ≡ Some q → Contains (cons_option o qs) q
  file_first None qs q h = cc
  file_first (Some p) qs q h = let is : p ≡ q = cc in subst (Contains (p ∷ qs)) is (contains_head p qs)

  file_rest : (o : Option (List ℕ)) (qs : List (List ℕ)) (q : List ℕ) → Contains qs q → Contains (cons_option o qs) q
  file_rest None qs q h = h
  file_rest (Some p) qs q h = contains_tail p q qs h

  file_either : (o : Option (List ℕ)) (qs : List (List ℕ)) (q : List ℕ) → Contains (cons_option o qs) q → (o ≡ Some q) ⊎ Contains qs q
  file_either None qs q h = inr h
  file_either (Some p) qs q h = elim (contains_cases p q qs h) [ inl is ↦ inl (ap Some is) | inr more ↦ inr more ]

  all_before : (w : Known) (links : List Link) (q : List ℕ) → IsIn (waiting_with_all origin known visits w links) q → IsIn w q ⊎ (Contains (files_of links) q × (contains_key known q ≡ false))
  all_before w [] q h = inl h
  all_before w (link ∷ links) q h = elim (all_before (waiting_with origin known visits w link.target) links q h) [
    | inr more ↦ inr (file_rest (file_of link.target) (files_of links) q more.0, more.1)
    | inl now ↦ elim (with_before w link.target q now) [
      | inl old ↦ inl old
      | inr new ↦ inr (file_first (file_of link.target) (files_of links) q new.0, new.1)
    ]
  ]

  done_all : (w : Known) (links : List Link) (q : List ℕ) → IsDone w q → IsDone (waiting_with_all origin known visits w links) q
  done_all w links q (inl h) = inl (all_more w links q h)
  done_all w links q (inr h) = inr h

  all_files : (w : Known) (links : List Link) (q : List ℕ) → Contains (files_of links) q → IsDone (waiting_with_all origin known visits w links) q
  all_files w [] q h = absurd (contains_none q h)
  all_files w (link ∷ links) q h = elim (file_either (file_of link.target) (files_of links) q h) [
    | inl here ↦ done_all (waiting_with origin known visits w link.target) links q (with_file w link.target q here)
    | inr more ↦ all_files (waiting_with origin known visits w link.target) links q more
  ]

-- ---- a traversal

-- the same where the same paths wait
explored_same :
    {K X : Type 0} (step : K → List K) (starts : List K) (row : K → X) (rows : K → Option X) (waiting other : List K) → ((q : K) → Contains waiting q → Contains other q) → ((q : K) → Contains other q → Contains waiting q)
    → IsExplored step starts row rows waiting → IsExplored step starts row rows other
explored_same {K} {X} step starts row rows waiting other to from h = record {
  exact = h.exact;
  met = h.met;
  ahead = λ key w. h.ahead key (from key w);
  begun = λ key s. known key (h.begun key s);
  followed = λ key next r s. known next (h.followed key next r s);
}
  where
    known : (key : K) → IsKnown rows waiting key → IsKnown rows other key
    known key (inl h) = inl h
    known key (inr h) = inr (to key h)

module _ (options : Options) (files : Snapshot) (seeds : List (List ℕ)) (known : Known) where
  -- where a traversal stands
  abbrev pub IsTraversed : VisitMap → Known → Type 0
  IsTraversed visits waiting = IsExplored (unknown_edges options files known) seeds (visit_at options files) (get visits) (keys waiting)

  pub traversed_start : IsTraversed empty (with_paths empty seeds)
  traversed_start =
      explored_same (unknown_edges options files known) seeds (visit_at options files) (get empty) seeds (keys (with_paths empty seeds))
      (λ q h. subst (λ ps. Contains ps q) (sym (keys-with_paths seeds)) (has_contains (ascending seeds) q (has_ascending seeds q ∙ contains_has seeds q h)))
      (λ q h. has_contains seeds q (sym (has_ascending seeds q) ∙ contains_has (ascending seeds) q (subst (λ ps. Contains ps q) (keys-with_paths seeds) h)))
      (explored_empty nat_list_cmp_total texts_antisymmetric (unknown_edges options files known) seeds (visit_at options files))

  -- the step from a path whose source is this
  step_of : (p source : List ℕ) → source_at files p ≡ Some source → unknown_edges options files known p ≡ unknown known (files_of (links_of options files p (made_of options p source)))
  step_of p source h = ap (unknown known) (sym (links_lead options files p source h))

  visit_is : (p source : List ℕ) → source_at files p ≡ Some source → visit_at options files p ≡ visit_of options files p source
  visit_is p source h = ap (λ s. visit_of options files p (unwrap_or s [])) h

  -- a path that waits is visited
  pub traversed_step :
      (visits : VisitMap) (waiting : Known) (p source : List ℕ) (visit : Visit) → IsTraversed visits waiting → get waiting p ≡ Some tt → source_at files p ≡ Some source → visit ≡ visit_of options files p source
      → IsTraversed (insert visits p visit) (waiting_with_all p known visits (remove waiting p) visit.links)
  traversed_step visits waiting p source visit h here there is =
      let links : List Link = visit.links in
      let after : Known = waiting_with_all p known visits (remove waiting p) links in
      let rows : VisitMap = insert visits p visit in
      let step = unknown_edges options files known in
      let row_is : visit_at options files p ≡ visit = visit_is p source there ∙ sym is in
      let steps_are : step p ≡ unknown known (files_of links) = step_of p source there ∙ ap (λ (v : Visit). unknown known (files_of v.links)) (sym is) in
      let one : (q : List ℕ) → Contains (p ∷ []) q → p ≡ q = λ q d. elim (contains_cases p q [] d) [ inl e ↦ e | inr none ↦ absurd (contains_none q none) ] in
      explored_turn step seeds (visit_at options files) (get visits) (get rows) (keys waiting) (p ∷ []) (keys after) h
      (record {
        taken = λ q d. subst (Contains (keys waiting)) (one q d) (has_key_at waiting p (ap is_some here));
        made = λ q d. subst (λ z. get rows z ≡ Some (visit_at options files z)) (one q d) (insert_here visits p visit ∙ ap Some (sym row_is));
        kept = λ q r. insert_more visits p q visit r;
        only = λ q found e. elim (apart_or_same q p) [
          | inl same ↦ inr (subst (Contains (p ∷ [])) (sym same) (contains_head p []))
          | inr apart ↦ inl (sym (insert_apart visits p q visit apart) ∙ e)
        ];
        ahead = λ q w. elim (all_before p known visits (remove waiting p) links q (key_has after q w)) [
          | inl old ↦ inl (has_key_at waiting q (remove_less waiting p q old))
          | inr new ↦ inr (p, contains_head p [], subst (λ qs. Contains qs q) (sym steps_are) (filter_contains (λ z. not (contains_key known z)) (files_of links) q new.0 (ap not new.1)))
        ];
        begun = λ q w. elim (apart_or_same q p) [
          | inl same ↦ inl (ap is_some (ap (get rows) same ∙ insert_here visits p visit))
          | inr apart ↦ inr (has_key_at after q (all_more p known visits (remove waiting p) links q (ap is_some (remove_apart waiting p q apart) ∙ key_has waiting q w)))
        ];
        followed = λ q next d s.
            let t = contains_filter (λ z. not (contains_key known z)) (files_of links) next (subst (λ qs. Contains qs next) steps_are (subst (λ z. Contains (step z) next) (sym (one q d)) s)) in
            elim (all_files p known visits (remove waiting p) links next t.0) [
              | inl w ↦ inr (has_key_at after next w)
              | inr rest ↦ elim rest [
                | inl same ↦ inl (ap is_some (ap (get rows) same ∙ insert_here visits p visit))
                | inr other ↦ elim other [
                  | inl k ↦ absurd (false≢true (sym (not-true (contains_key known next) t.1) ∙ k))
                  | inr v ↦ inl (insert_more visits p next visit v)
                ]
              ]
            ];
      })

  module _ (sources : (q : List ℕ) → Contains seeds q → has_source files q ≡ true) where
    -- what waits is a source
    pub traversed_source : (visits : VisitMap) (waiting : Known) (p : List ℕ) → IsTraversed visits waiting → get waiting p ≡ Some tt → has_source files p ≡ true
    traversed_source visits waiting p h here = reached_source options files known seeds sources p (h.ahead p (has_key_at waiting p (ap is_some here)))

    -- where nothing waits, all is visited
    pub traversed_all : (visits : VisitMap) (waiting : Known) → IsTraversed visits waiting → waiting ≡ empty → visits ≡ visits_of options files seeds known
    traversed_all visits waiting h none =
        explored_all nat_list_cmp_total texts_antisymmetric (unknown_edges options files known) seeds (visit_at options files) visits (explored_paths options files seeds known)
        (explored_alone options files known seeds sources) (all_explored options files known seeds sources)
        (subst (IsExplored (unknown_edges options files known) seeds (visit_at options files) (get visits)) no_keys h)
      where
        no_keys : keys waiting ≡ []
        no_keys = nothing (keys waiting) (λ q k. absurd (false≢true (ap is_some (sym (get-empty {X = Unit {0}} (slice_cmp nat_cmp) q) ∙ ap (λ w. get w q) (sym none)) ∙ key_has waiting q k)))
          where
            nothing : (ks : List (List ℕ)) → ((q : List ℕ) → Contains ks q → ⊥) → ks ≡ []
            nothing [] h = refl
            nothing (k ∷ ks) h = absurd (h k (contains_head k ks))

    -- ---- what was visited, as what was found

    abbrev visit_under : List ℕ → List ℕ × Visit
    visit_under p = (p, visit_at options files p)

    firsts : (ps : List (List ℕ)) → map (λ (e : List ℕ × Visit). e.0) (map visit_under ps) ≡ ps
    firsts [] = refl
    firsts (p ∷ ps) = ap (λ z. p ∷ z) (firsts ps)

    found_one : (p : List ℕ) (rest : List Found) (s : Option (List ℕ)) → source_at files p ≡ s → is_some s ≡ true → found_of (visit_under p) ∷ rest ≡ cons_option (found_in options files p) rest
    found_one p rest None e h = absurd (false≢true h)
    found_one p rest (Some source) e h = ap (λ v. found_of (p, v) ∷ rest) (visit_is p source e) ∙ sym (ap (λ s. cons_option (option_map (found_at options files p) s) rest) e)

    founds_along : (ps : List (List ℕ)) → ((q : List ℕ) → Contains ps q → has_source files q ≡ true) → map found_of (map visit_under ps) ≡ filter_map (found_in options files) ps
    founds_along [] h = refl
    founds_along (p ∷ ps) h =
        ap (λ fs. found_of (visit_under p) ∷ fs) (founds_along ps (λ q k. h q (contains_tail p q ps k)))
        ∙ found_one p (filter_map (found_in options files) ps) (source_at files p) refl (h p (contains_head p ps))

    pub visits_found : map found_of (entries (visits_of options files seeds known)) ≡ explored options files seeds known
    visits_found =
        ap (map found_of) (entries_by nat_list_cmp_total (map visit_under (explored_paths options files seeds known)) (subst (IsStrictlySortedBy (slice_cmp nat_cmp)) (sym (firsts (explored_paths options files seeds known))) (paths_ascending options files known seeds sources)))
        ∙ founds_along (explored_paths options files seeds known) (explored_source options files known seeds sources)
