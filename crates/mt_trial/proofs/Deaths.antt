-- What is held from outside keeps what it reaches, and the rest is dead.
use Rattle.std.proofs.Common.{ℕ, ◌+◌, ◌<◌, ◌≡◌, Bool, true, false, cond, nat_eq, nat_lt, List, Option, Some, None, refl, filter, inl, inr, ◌⊎◌, ap, sym, ◌∙◌, arith}
use Rattle.std.specs.Prelude.{not, ◌↔◌}
use Rattle.std.specs.Bool.{IsTrue}
use Rattle.std.specs.List.{Contains, list_any}
use Rattle.std.specs.List.Sorted.{IsStrictlySortedBy}
use Rattle.std.specs.Ordering.{nat_cmp}
use Rattle.std.specs.FinMap.{FinMap, contains_key, get}
use Rattle.std.specs.Option.{is_some}
use Rattle.std.proofs.lemmas.Bool.{both_ways, cases_Bool, false≢true, lt-ltb, ltb-true, not-true}
use Rattle.mt_containers.specs.Walks.{IsReached}
use Rattle.mt_containers.proofs.Members.{any_contains, contains_any, contains_filter, contains_none, filter_contains}
use Rattle.mt_containers.proofs.Walks.{reached_least, reached_start, reached_step}
use Rattle.mt_refs.specs.Lists.{targets_in}
use Rattle.mt_refs.specs.Graphs.{Graph, IsLive, count, edges_from}
use Rattle.mt_refs.proofs.Ascents.{nat_decides}
use Rattle.mt_trial.specs.Deaths.{IsDead, inner, left_at}
use Rattle.mt_trial.proofs.Outers.{from_outer, outer_and_inner, outer_from}

one : (b : Bool) → b ≡ true → cond {A = ℕ} b 1 0 ≡ 1
one b e = ap (λ (b : Bool). cond {A = ℕ} b 1 0) e

none : (b : Bool) → b ≡ false → cond {A = ℕ} b 1 0 ≡ 0
none b e = ap (λ (b : Bool). cond {A = ℕ} b 1 0) e

-- a list with something in it is the list of a live node
some_list : (o : Option (List ℕ)) (n : ℕ) → Contains (targets_in o) n → IsTrue (is_some o)
some_list None n w = absurd (contains_none n w)
some_list (Some es) n w = refl

module _ (g : Graph) (starts nodes : List ℕ) (counts : FinMap nat_cmp ℕ) (kept : FinMap nat_cmp Unit)
    (cover : (n : ℕ) → IsDead g n → IsReached (edges_from g) starts n)
    (is_reached : (n : ℕ) → Contains nodes n ↔ IsReached (edges_from g) starts n)
    (sorted : IsStrictlySortedBy nat_cmp nodes)
    (left : (n : ℕ) → left_at counts n + inner g n nodes ≡ cond (list_any (nat_eq n) nodes) (count g n) 0)
    (is_kept : (n : ℕ) → IsTrue (contains_key kept n) ↔ IsReached (edges_from g) (filter (λ n. nat_lt 0 (left_at counts n)) nodes) n) where
  abbrev holding : List ℕ
  holding = filter (λ n. nat_lt 0 (left_at counts n)) nodes

  -- whether a node is among the reached
  there : (n : ℕ) → Contains nodes n ⊎ (Contains nodes n → ⊥)
  there n = elim (cases_Bool (list_any (nat_eq n) nodes)) [
    | inl t ↦ inl (any_contains nat_eq nat_decides nodes n t)
    | inr f ↦ inr (λ w. false≢true (sym f ∙ contains_any nat_eq nat_decides nodes n w))
  ]

  -- what is left of a node's count
  inside : (n : ℕ) → Contains nodes n → left_at counts n + inner g n nodes ≡ count g n
  inside n w = left n ∙ ap (λ b. cond b (count g n) 0) (contains_any nat_eq nat_decides nodes n w)

  held : (n : ℕ) → Contains nodes n → 0 < left_at counts n → Contains holding n
  held n w more = filter_contains (λ n. nat_lt 0 (left_at counts n)) nodes n w (lt-ltb 0 (left_at counts n) more)

  -- a pinned node is held
  held_pin : (n : ℕ) → Contains nodes n → Contains g.pins n → Contains holding n
  held_pin n inn w =
      let all = inside n inn in
      let parts = outer_and_inner g n nodes sorted in
      let pin = one (list_any (nat_eq n) g.pins) (contains_any nat_eq nat_decides g.pins n w) in
      held n inn (omega arith)

  -- so is one with an edge from outside
  held_edge : (n u : ℕ) → Contains nodes n → (Contains nodes u → ⊥) → Contains (edges_from g u) n → Contains holding n
  held_edge n u inn out w =
      let all = inside n inn in
      let parts = outer_and_inner g n nodes sorted in
      let edge = from_outer g n u nodes out w in
      held n inn (omega arith)

  kept_of_held : (n : ℕ) → Contains holding n → IsTrue (contains_key kept n)
  kept_of_held n h = (is_kept n).1 (reached_start (edges_from g) holding n h)

  -- what a pinned node reaches is kept, where it is among the reached
  kept_pinned : (n : ℕ) → IsReached (edges_from g) g.pins n → Contains nodes n → IsTrue (contains_key kept n)
  kept_pinned n h = reached_least (edges_from g) g.pins (λ n. Contains nodes n → IsTrue (contains_key kept n))
      (λ k s inn. kept_of_held k (held_pin k inn s))
      (λ k next p s inn. elim (there k) [
        | inl t ↦ (is_kept next).1 (reached_step (edges_from g) holding k next ((is_kept k).0 (p t)) s)
        | inr f ↦ kept_of_held next (held_edge next k inn f s)
      ])
      n h

  -- a node that is held is reached from a pinned one
  held_alive : (n : ℕ) → Contains holding n → (IsReached (edges_from g) g.pins n → ⊥) → ⊥
  held_alive n h unreached =
      let found = contains_filter (λ n. nat_lt 0 (left_at counts n)) nodes n h in
      let all = inside n found.0 in
      let parts = outer_and_inner g n nodes sorted in
      let more : 0 < left_at counts n = ltb-true 0 (left_at counts n) found.1 in
      elim (cases_Bool (list_any (nat_eq n) g.pins)) [
        | inl t ↦ unreached (reached_start (edges_from g) g.pins n (any_contains nat_eq nat_decides g.pins n t))
        | inr f ↦
            let no_pin = none (list_any (nat_eq n) g.pins) f in
            let from = outer_from g n nodes (omega arith) in
            from.1.0 ((is_reached from.0).1 (cover from.0 (some_list (get g.edges from.0) n from.1.1, λ r. unreached (reached_step (edges_from g) g.pins from.0 n r from.1.1))))
      ]

  kept_alive : (n : ℕ) → IsReached (edges_from g) holding n → (IsReached (edges_from g) g.pins n → ⊥) → ⊥
  kept_alive n h = reached_least (edges_from g) holding (λ n. (IsReached (edges_from g) g.pins n → ⊥) → ⊥)
      held_alive
      (λ k next p s unreached. p (λ r. unreached (reached_step (edges_from g) g.pins k next r s)))
      n h

  -- the reached that are not kept are exactly the dead
  pub rest_dead : ((n : ℕ) → Contains nodes n → IsLive g n) → (n : ℕ) → Contains (filter (λ n. not (contains_key kept n)) nodes) n ↔ IsDead g n
  rest_dead live n = (
    λ w.
        let found = contains_filter (λ n. not (contains_key kept n)) nodes n w in
        (live n found.0, λ r. both_ways (contains_key kept n) (not-true (contains_key kept n) found.1) (kept_pinned n r found.0)),
    λ d. filter_contains (λ n. not (contains_key kept n)) nodes n ((is_reached n).1 (cover n d))
        (elim (cases_Bool (contains_key kept n)) [
          | inl t ↦ absurd (kept_alive n ((is_kept n).0 t) d.1)
          | inr f ↦ ap not f
        ]),
  )
