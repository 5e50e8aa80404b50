-- An exploration gives rows to exactly the keys that are reached, each its own.
use Rattle.std.proofs.Common.{inl, inr, ◌⊎◌, ◌≡◌, ◌∙◌, Bool, true, false, cond, List, [], ◌∷◌, ◌++◌, map, filter, Option, Some, None, is_some, refl, ap, sym, subst}
use Rattle.std.specs.Prelude.{not}
use Rattle.std.specs.declared.cmp.Ordering.{Ordering}
use Rattle.std.specs.Cmp.{IsTotalOrder, eq_by_cmp_equiv}
use Rattle.std.specs.Ordering.{eq_by_cmp}
use Rattle.std.specs.FinMap.{FinMap, IsAntisymmetric, empty, find, from_entries, get, get-empty, get-from_entries, get-insert, insert, same_map}
use Rattle.std.specs.List.{Contains, flat_map, fold, list_any}
use Rattle.std.proofs.lemmas.Bool.{cases_Bool, cond-true, cond-false, false≢true}
use Rattle.std.proofs.lemmas.List.Elements.{Contains-append_cases, Contains-append_left, Contains-append_right, Contains-push, Contains-push_cases}
use Rattle.mt_containers.specs.Walks.{IsReached}
use Rattle.mt_containers.specs.Explorations.{HasRow, IsExplored, IsKnown, IsTurn}
use Rattle.mt_containers.proofs.Members.{any_contains, contains_any, contains_filter, contains_flat_map, contains_none, filter_contains, flat_map_contains, same_or_apart, tie_decides}
use Rattle.mt_containers.proofs.Walks.{reached_least, reached_start, reached_step}

-- ---- what a look-up found

no_row : {X : Type 0} (o : Option X) → o ≡ None → is_some o ≡ true → ⊥
no_row o e h = absurd (false≢true (ap is_some (sym e) ∙ h))

no_value : {X : Type 0} (o : Option X) (x : X) → o ≡ None → o ≡ Some x → ⊥
no_value o x e f = cc

the_value : {X : Type 0} (o : Option X) → is_some o ≡ true → (x : X) × (o ≡ Some x)
the_value None h = absurd (false≢true h)
the_value (Some x) h = (x, refl)

no_value_at : {X : Type 0} (o : Option X) → (is_some o ≡ true → ⊥) → o ≡ None
no_value_at None h = refl
no_value_at (Some x) h = absurd (h refl)

module _ {K X : Type 0} (step : K → List K) (starts : List K) (row : K → X) where
  -- ---- one turn

  -- nothing has its row, and the starts wait
  pub explored_start : (rows : K → Option X) → ((key : K) → rows key ≡ None) → IsExplored step starts row rows starts
  explored_start rows none = record {
    exact = λ key found e. absurd (no_value (rows key) found (none key) e);
    met = λ key h. absurd (no_row (rows key) (none key) h);
    ahead = λ key h. reached_start step starts key h;
    begun = λ key h. inr h;
    followed = λ key next h s. absurd (no_row (rows key) (none key) h);
  }

  -- after a turn a key that was known is known
  known_after : (rows rows_after : K → Option X) (waiting done waiting_after : List K) → IsTurn step row rows waiting done rows_after waiting_after → (key : K) → IsKnown rows waiting key → IsKnown rows_after waiting_after key
  known_after rows rows_after waiting done waiting_after turn key (inl h) = inl (turn.kept key h)
  known_after rows rows_after waiting done waiting_after turn key (inr h) = turn.begun key h

  -- after a turn a key with a row had it, or got it
  had_or_done : (rows rows_after : K → Option X) (waiting done waiting_after : List K) → IsTurn step row rows waiting done rows_after waiting_after → (key : K) → HasRow rows_after key → HasRow rows key ⊎ Contains done key
  had_or_done rows rows_after waiting done waiting_after turn key h =
      let v = the_value (rows_after key) h in
      elim (turn.only key v.0 v.1) [ inl e ↦ inl (ap is_some e) | inr d ↦ inr d ]

  pub explored_turn : (rows rows_after : K → Option X) (waiting done waiting_after : List K) → IsExplored step starts row rows waiting → IsTurn step row rows waiting done rows_after waiting_after → IsExplored step starts row rows_after waiting_after
  explored_turn rows rows_after waiting done waiting_after h turn = record {
    exact = λ key found e. elim (turn.only key found e) [
      | inl old ↦ h.exact key found old
      | inr new ↦ let f : Some (row key) ≡ Some found = sym (turn.made key new) ∙ e in cc
    ];
    met = λ key r. elim (had_or_done rows rows_after waiting done waiting_after turn key r) [
      | inl old ↦ h.met key old
      | inr new ↦ h.ahead key (turn.taken key new)
    ];
    ahead = λ key w. elim (turn.ahead key w) [
      | inl old ↦ h.ahead key old
      | inr new ↦ reached_step step starts new.0 key (h.ahead new.0 (turn.taken new.0 new.1)) new.2
    ];
    begun = λ key s. known_after rows rows_after waiting done waiting_after turn key (h.begun key s);
    followed = λ key next r s. elim (had_or_done rows rows_after waiting done waiting_after turn key r) [
      | inl old ↦ known_after rows rows_after waiting done waiting_after turn next (h.followed key next old s)
      | inr new ↦ turn.followed key next new s
    ];
  }

  -- ---- where nothing waits

  known_now : (rows : K → Option X) (key : K) → IsKnown rows [] key → HasRow rows key
  known_now rows key (inl h) = h
  known_now rows key (inr h) = absurd (contains_none key h)

  -- each key that is reached has its row
  pub explored_has : (rows : K → Option X) → IsExplored step starts row rows [] → (key : K) → IsReached step starts key → rows key ≡ Some (row key)
  explored_has rows h key r =
      let v = the_value (rows key) (reached_least step starts (HasRow rows) (λ k s. known_now rows k (h.begun k s)) (λ k next p s. known_now rows next (h.followed k next p s)) key r) in
      v.1 ∙ ap Some (h.exact key v.0 v.1)

  -- and no other key has one
  pub explored_only : (rows : K → Option X) (waiting : List K) → IsExplored step starts row rows waiting → (key : K) → HasRow rows key → IsReached step starts key
  explored_only rows waiting h key r = h.met key r

  pub explored_none : (rows : K → Option X) (waiting : List K) → IsExplored step starts row rows waiting → (key : K) → (IsReached step starts key → ⊥) → rows key ≡ None
  explored_none rows waiting h key unreached = no_value_at (rows key) (λ r. unreached (h.met key r))

  -- ---- a stack

  -- the key on top has its row already
  pub explored_skip : (rows : K → Option X) (stack : List K) (key : K) → IsExplored step starts row rows (stack ++ key ∷ []) → HasRow rows key → IsExplored step starts row rows stack
  explored_skip rows stack key h has =
      explored_turn rows rows (stack ++ key ∷ []) [] stack h
      (record {
        taken = λ k d. absurd (contains_none k d);
        made = λ k d. absurd (contains_none k d);
        kept = λ k r. r;
        only = λ k found e. inl e;
        ahead = λ k w. inl (Contains-append_left stack (key ∷ []) k w);
        begun = λ k w. elim (Contains-push_cases stack key k w) [ inl s ↦ inr s | inr e ↦ inl (subst (HasRow rows) e has) ];
        followed = λ k next d s. absurd (contains_none k d);
      })

  -- the key on top gets its row, and its steps go on the stack
  pub explored_step :
      (rows rows_after : K → Option X) (stack : List K) (key : K) → ((k : K) → (k ≡ key → ⊥) → rows_after k ≡ rows k) → rows_after key ≡ Some (row key) → ((k : K) → (k ≡ key) ⊎ (k ≡ key → ⊥))
      → IsExplored step starts row rows (stack ++ key ∷ []) → IsExplored step starts row rows_after (stack ++ step key)
  explored_step rows rows_after stack key others here same h =
      let has : HasRow rows_after key = ap is_some here in
      let one : (k : K) → Contains (key ∷ []) k → key ≡ k = λ k d. elim (Contains-push_cases [] key k d) [ inl e ↦ absurd (contains_none k e) | inr e ↦ e ] in
      explored_turn rows rows_after (stack ++ key ∷ []) (key ∷ []) (stack ++ step key) h
      (record {
        taken = λ k d. Contains-append_right stack (key ∷ []) k d;
        made = λ k d. subst (λ q. rows_after q ≡ Some (row q)) (one k d) here;
        kept = λ k r. elim (same k) [ inl e ↦ subst (HasRow rows_after) (sym e) has | inr apart ↦ ap is_some (others k apart) ∙ r ];
        only = λ k found e. elim (same k) [ inl is ↦ inr (subst (Contains (key ∷ [])) (sym is) (Contains-push [] key)) | inr apart ↦ inl (sym (others k apart) ∙ e) ];
        ahead = λ k w. elim (Contains-append_cases stack (step key) k w) [
          | inl s ↦ inl (Contains-append_left stack (key ∷ []) k s)
          | inr s ↦ inr (key, Contains-push [] key, s)
        ];
        begun = λ k w. elim (Contains-push_cases stack key k w) [
          | inl s ↦ inr (Contains-append_left stack (step key) k s)
          | inr e ↦ inl (subst (HasRow rows_after) e has)
        ];
        followed = λ k next d s. inr (Contains-append_right stack (step key) next (subst (λ q. Contains (step q) next) (sym (one k d)) s));
      })

  -- ---- a wave

  -- all that wait get their rows, and what is next has each step from them that has no row
  pub explored_wave :
      (rows rows_after : K → Option X) (wave next : List K)
      → ((key : K) → Contains wave key → rows_after key ≡ Some (row key)) → ((key : K) → HasRow rows key → HasRow rows_after key) → ((key : K) (found : X) → rows_after key ≡ Some found → (rows key ≡ Some found) ⊎ Contains wave key)
      → ((key : K) → Contains next key → Contains (flat_map step wave) key) → ((key : K) → Contains (flat_map step wave) key → IsKnown rows_after next key)
      → IsExplored step starts row rows wave → IsExplored step starts row rows_after next
  explored_wave rows rows_after wave next made kept only sound whole h =
      explored_turn rows rows_after wave wave next h
      (record {
        taken = λ key d. d;
        made = made;
        kept = kept;
        only = only;
        ahead = λ key w. inr (contains_flat_map step wave key (sound key w));
        begun = λ key w. inl (ap is_some (made key w));
        followed = λ key to d s. whole to (flat_map_contains step wave key to d s);
      })

-- the steps from a wave that have no row
abbrev pub next_wave : {K X : Type 0} → (K → List K) → (K → Option X) → List K → List K
next_wave step rows wave = filter (λ key. not (is_some (rows key))) (flat_map step wave)

-- ---- rows in a finite map

both_ways_some : {X : Type 0} (b : Bool) (x : X) → cond b (Some x) (Some x) ≡ Some x
both_ways_some true x = refl
both_ways_some false x = refl

some_either : {X : Type 0} (b : Bool) (x : X) (found : Option X) → is_some found ≡ true → is_some (cond b (Some x) found) ≡ true
some_either true x found h = refl
some_either false x found h = h

module _ {K X : Type 0} {R : K → K → Ordering} (o : IsTotalOrder R) (anti : IsAntisymmetric R) where
  get_here : (rows : FinMap R X) (key : K) (found : X) → get (insert rows key found) key ≡ Some found
  get_here rows key found = get-insert o rows key found key ∙ cond-true (eq_by_cmp R key key) (Some found) (get rows key) ((eq_by_cmp_equiv o).refl key)

  get_apart : (rows : FinMap R X) (key other : K) (found : X) → (other ≡ key → ⊥) → get (insert rows key found) other ≡ get rows other
  get_apart rows key other found apart = elim (cases_Bool (eq_by_cmp R other key)) [
    | inl e ↦ absurd (apart (((tie_decides o anti) other key).0 e))
    | inr e ↦ get-insert o rows key found other ∙ cond-false (eq_by_cmp R other key) (Some found) (get rows other) e
  ]

  -- the rows of a list of keys
  find_rows : (row : K → X) (keys : List K) (q : K) → find R q (map (λ key. (key, row key)) keys) ≡ cond (list_any (eq_by_cmp R q) keys) (Some (row q)) None
  find_rows row [] q = refl
  find_rows row (key ∷ keys) q = elim (cases_Bool (eq_by_cmp R q key)) [
    | inl e ↦ rw e (ap (λ k. Some (row k)) (sym (((tie_decides o anti) q key).0 e)))
    | inr e ↦ rw e (find_rows row keys q)
  ]

  -- rows with those of more keys
  abbrev pub with_rows : (K → X) → FinMap R X → List K → FinMap R X
  with_rows row rows keys = fold (λ m key. insert m key (row key)) rows keys

  get-with_rows : (row : K → X) (rows : FinMap R X) (keys : List K) (q : K) → get (with_rows row rows keys) q ≡ cond (list_any (eq_by_cmp R q) keys) (Some (row q)) (get rows q)
  get-with_rows row rows [] q = refl
  get-with_rows row rows (key ∷ keys) q = elim (cases_Bool (eq_by_cmp R q key)) [
    | inl e ↦
        let is = ((tie_decides o anti) q key).0 e in
        get-with_rows row (insert rows key (row key)) keys q
        ∙ ap (cond (list_any (eq_by_cmp R q) keys) (Some (row q))) (ap (get (insert rows key (row key))) is ∙ get_here rows key (row key) ∙ ap (λ k. Some (row k)) (sym is))
        ∙ both_ways_some (list_any (eq_by_cmp R q) keys) (row q)
        ∙ rw e refl
    | inr e ↦
        get-with_rows row (insert rows key (row key)) keys q
        ∙ ap (cond (list_any (eq_by_cmp R q) keys) (Some (row q))) (get-insert o rows key (row key) q ∙ cond-false (eq_by_cmp R q key) (Some (row key)) (get rows q) e)
        ∙ rw e refl
  ]

  module _ (step : K → List K) (starts : List K) (row : K → X) where
    pub explored_empty : IsExplored step starts row (get (empty {X = X} {R = R})) starts
    explored_empty = explored_start step starts row (get empty) (λ key. get-empty R key)

    -- the key on top of the stack gets its row, and its steps go on the stack
    pub explored_insert : (rows : FinMap R X) (stack : List K) (key : K) → IsExplored step starts row (get rows) (stack ++ key ∷ []) → IsExplored step starts row (get (insert rows key (row key))) (stack ++ step key)
    explored_insert rows stack key h =
        explored_step step starts row (get rows) (get (insert rows key (row key))) stack key
        (λ k apart. get_apart rows key k (row key) apart) (get_here rows key (row key)) (λ k. same_or_apart o anti k key) h

    -- a wave gets its rows, and the steps from it that have none are the next
    pub explored_next :
        (rows : FinMap R X) (wave : List K) → IsExplored step starts row (get rows) wave
        → IsExplored step starts row (get (with_rows row rows wave)) (next_wave step (get (with_rows row rows wave)) wave)
    explored_next rows wave h =
        let after = with_rows row rows wave in
        explored_wave step starts row (get rows) (get after) wave (next_wave step (get after) wave)
        (λ key w. get-with_rows row rows wave key ∙ cond-true (list_any (eq_by_cmp R key) wave) (Some (row key)) (get rows key) (contains_any (eq_by_cmp R) (tie_decides o anti) wave key w))
        (λ key r. ap is_some (get-with_rows row rows wave key) ∙ some_either (list_any (eq_by_cmp R key) wave) (row key) (get rows key) r)
        (λ key found e. elim (cases_Bool (list_any (eq_by_cmp R key) wave)) [
          | inl t ↦ inr (any_contains (eq_by_cmp R) (tie_decides o anti) wave key t)
          | inr f ↦ inl (sym (get-with_rows row rows wave key ∙ cond-false (list_any (eq_by_cmp R key) wave) (Some (row key)) (get rows key) f) ∙ e)
        ])
        (λ key w. (contains_filter (λ k. not (is_some (get after k))) (flat_map step wave) key w).0)
        (λ key s. elim (cases_Bool (is_some (get after key))) [
          | inl t ↦ inl t
          | inr f ↦ inr (filter_contains (λ k. not (is_some (get after k))) (flat_map step wave) key s (ap not f))
        ])
        h

    -- where nothing waits, the rows are those of the keys that are reached
    pub explored_all :
        (rows : FinMap R X) (keys : List K) → ((key : K) → Contains keys key → IsReached step starts key) → ((key : K) → IsReached step starts key → Contains keys key)
        → IsExplored step starts row (get rows) [] → rows ≡ from_entries (map (λ key. (key, row key)) keys)
    explored_all rows keys sound whole h =
        same_map o anti rows (from_entries (map (λ key. (key, row key)) keys))
        (λ key.
        let right = get-from_entries o (map (λ k. (k, row k)) keys) key ∙ find_rows row keys key in
        elim (cases_Bool (list_any (eq_by_cmp R key) keys)) [
          | inl t ↦ explored_has step starts row (get rows) h key (sound key (any_contains (eq_by_cmp R) (tie_decides o anti) keys key t)) ∙ sym (right ∙ cond-true (list_any (eq_by_cmp R key) keys) (Some (row key)) None t)
          | inr f ↦
              explored_none step starts row (get rows) [] h key (λ r. false≢true (sym f ∙ contains_any (eq_by_cmp R) (tie_decides o anti) keys key (whole key r)))
              ∙ sym (right ∙ cond-false (list_any (eq_by_cmp R key) keys) (Some (row key)) None f)
        ])
