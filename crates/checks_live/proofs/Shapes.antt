-- What the checks at run time tell of a shape.
use Rattle.std.proofs.Common.{ℕ, ◌+◌, ◌<◌, ◌^◌, ◌≡◌, ◌||◌, ◌∙◌, true, false, cond, List, [], ◌∷◌, ◌++◌, get_or, Option, Some, None, refl, inl, inr, ap, sym, subst}
use Rattle.std.specs.Bool.{IsTrue}
use Rattle.std.specs.List.{All}
use Rattle.std.specs.Option.{option_or, is_some}
use Rattle.std.specs.Ordering.{nat_cmp, eq_by_cmp}
use Rattle.std.specs.Cmp.{nat_cmp_total}
use Rattle.std.specs.FinMap.{FinMap, contains_key, empty, entries, find, get, get-empty, get-entries, get-insert, insert, same_map, nat_cmp-IsAntisymmetric}
use Rattle.std.proofs.lemmas.Bool.{cases_Bool, false≢true, or_cases}
use Rattle.std.proofs.lemmas.List.Elements.{All-append, All-cons, All-from_get_or, All-head, All-nil, All-tail, Contains-get_or}
use Rattle.mt_containers.specs.Walks.{IsReached}
use Rattle.mt_containers.proofs.Members.{tie_decides}
use Rattle.mt_containers.proofs.Walks.{reached_start, reached_step}
use Rattle.mt_refs.specs.Lists.{targets_in}
use Rattle.mt_refs.specs.Graphs.{Edges, Graph, IsClosed, IsLive, edge_total, edges_from}
use Rattle.mt_refs.specs.Patches.{committed, filled, overlaid, removed}
use Rattle.mt_refs.proofs.Laid.{get_laid}
use Rattle.mt_trial.specs.Deaths.{IsDead}
use Rattle.mt_trial.proofs.Walked.{rest_holds, top_holds}
use Rattle.checks_live.specs.Shapes.{AreInside, IsCovered, IsMerged, shown, targets_by}

-- ---- lists

-- what holds of each list, and of none, holds of what a look-up finds
each_list : (P : List ℕ → Type 0) → P [] → (es : List (ℕ × List ℕ)) → All (λ e. P e.1) es → (q : ℕ) → P (targets_in (find nat_cmp q es))
each_list P none [] all q = none
each_list P none (e ∷ es) all q = elim (eq_by_cmp nat_cmp q e.0) as (λ b. P (targets_in (cond b (Some e.1) (find nat_cmp q es)))) [
  | true ↦ All-head (λ (x : ℕ × List ℕ). P x.1) e es all
  | false ↦ each_list P none es (All-tail (λ (x : ℕ × List ℕ). P x.1) e es all) q
]

pub closed_shown : (edges : Edges) (pins : List ℕ) (spare : ℕ) → All (λ e. AreInside edges e.1) (entries edges) → AreInside edges pins → IsClosed (shown edges pins spare)
closed_shown edges pins spare lists inside = record {
  edges = λ n. subst (λ o. AreInside edges (targets_in o)) (sym (get-entries edges n)) (each_list (AreInside edges) (All-nil (λ t. IsTrue (contains_key edges t))) (entries edges) lists n);
  pins = inside;
}

-- where what is left and the next one hold, so does what was left before
pub all_before : {X : Type 0} (P : X → Type 0) (x : X) (before rest all : List X) → before ≡ x ∷ rest → P x → (All P before → All P all) → All P rest → All P all
all_before P x before rest all is here kept h = kept (subst (All P) (sym is) (All-cons P x rest here h))

pub all_done : {X : Type 0} (P : X → Type 0) (before all : List X) → before ≡ [] → (All P before → All P all) → All P all
all_done P before all is kept = kept (subst (All P) (sym is) (All-nil P))

-- ---- the graph of a shape

or_none : (o : Option (List ℕ)) → option_or o None ≡ o
or_none None = refl
or_none (Some x) = refl

filled_entries : (edges : Edges) → filled (entries edges) empty ≡ edges
filled_entries edges = same_map nat_cmp_total nat_cmp-IsAntisymmetric (filled (entries edges) empty) edges (λ q. get_laid edges empty q ∙ ap (option_or (get edges q)) (get-empty nat_cmp q) ∙ or_none (get edges q))

pub edges_committed : (edges before : Edges) (set : List (ℕ × List ℕ)) (dead : List ℕ) → before ≡ empty → set ≡ entries edges → dead ≡ [] → filled set (removed dead before) ≡ edges
edges_committed edges before set dead none rows alive = ap (λ ns. filled set (removed ns before)) alive ∙ ap (filled set) none ∙ ap (λ es. filled es empty) rows ∙ filled_entries edges

pub closed_committed : (g : Graph) (edges : Edges) (set : List (ℕ × List ℕ)) (pins ps dead : List ℕ) → g.edges ≡ empty → set ≡ entries edges → dead ≡ [] → pins ≡ ps → ((spare : ℕ) → IsClosed (shown edges ps spare)) → IsClosed (committed g set pins dead)
closed_committed g edges set pins ps dead none rows alive same closed =
    subst (λ (m : Edges). IsClosed (shown m pins g.spare)) (sym (edges_committed edges g.edges set dead none rows alive))
    (subst (λ (xs : List ℕ). IsClosed (shown edges xs g.spare)) (sym same) (closed g.spare))

pub few_committed : (g : Graph) (edges : Edges) (set : List (ℕ × List ℕ)) (pins dead : List ℕ) → g.edges ≡ empty → set ≡ entries edges → dead ≡ [] → edge_total edges + 1 < 2 ^ 32 → edge_total (committed g set pins dead).edges + 1 < 2 ^ 32
few_committed g edges set pins dead none rows alive few = subst (λ (m : Edges). edge_total m + 1 < 2 ^ 32) (sym (edges_committed edges g.edges set dead none rows alive)) few

-- ---- an overlay by a change

pub edges_overlaid : (edges change before : Edges) (set : List (ℕ × List ℕ)) → IsMerged edges change before → set ≡ entries change → filled set before ≡ edges
edges_overlaid edges change before set merged rows = ap (λ es. filled es before) rows ∙ same_map nat_cmp_total nat_cmp-IsAntisymmetric (filled (entries change) before) edges (λ q. get_laid change before q ∙ sym (merged q))

pub closed_overlaid : (g : Graph) (edges change : Edges) (set : List (ℕ × List ℕ)) (pins ps : List ℕ) → IsMerged edges change g.edges → set ≡ entries change → pins ≡ ps → ((spare : ℕ) → IsClosed (shown edges ps spare)) → IsClosed (overlaid g set pins)
closed_overlaid g edges change set pins ps merged rows same closed =
    subst (λ (m : Edges). IsClosed (shown m pins g.spare)) (sym (edges_overlaid edges change g.edges set merged rows))
    (subst (λ (xs : List ℕ). IsClosed (shown edges xs g.spare)) (sym same) (closed g.spare))

pub few_overlaid : (g : Graph) (edges change : Edges) (set : List (ℕ × List ℕ)) (pins : List ℕ) → IsMerged edges change g.edges → set ≡ entries change → edge_total edges + 1 < 2 ^ 32 → edge_total (overlaid g set pins).edges + 1 < 2 ^ 32
few_overlaid g edges change set pins merged rows few = subst (λ (m : Edges). edge_total m + 1 < 2 ^ 32) (sym (edges_overlaid edges change g.edges set merged rows)) few

-- ---- what is merged

-- what was merged, and the lists that are left
abbrev pub IsMergedSoFar : Edges → List (ℕ × List ℕ) → Edges → Edges → Type 0
IsMergedSoFar merged rest change edges = (n : ℕ) → option_or (get merged n) (find nat_cmp n rest) ≡ option_or (get change n) (get edges n)

pub merged_start : (merged change edges : Edges) (rest : List (ℕ × List ℕ)) → merged ≡ change → rest ≡ entries edges → IsMergedSoFar merged rest change edges
merged_start merged change edges rest same is n = ap (λ m. option_or (get m n) (find nat_cmp n rest)) same ∙ ap (option_or (get change n)) (ap (find nat_cmp n) is ∙ sym (get-entries edges n))

some_first : (o p q : Option (List ℕ)) → is_some o ≡ true → option_or o p ≡ option_or o q
some_first None p q h = absurd (false≢true h)
some_first (Some x) p q h = refl

none_first : (o p : Option (List ℕ)) → is_some o ≡ false → option_or o p ≡ p
none_first None p h = refl
none_first (Some x) p h = absurd (false≢true (sym h))

-- a list that stands already is left as it is
pub merged_skip : (merged change edges : Edges) (before rest : List (ℕ × List ℕ)) (node : ℕ) (targets : List ℕ) → before ≡ (node, targets) ∷ rest → is_some (get merged node) ≡ true → IsMergedSoFar merged before change edges → IsMergedSoFar merged rest change edges
merged_skip merged change edges before rest node targets is has kept n =
    elim (cases_Bool (eq_by_cmp nat_cmp n node)) [
      | inl t ↦ some_first (get merged n) (find nat_cmp n rest) (find nat_cmp n before) (ap (λ k. is_some (get merged k)) (((tie_decides nat_cmp_total nat_cmp-IsAntisymmetric) n node).0 t) ∙ has)
      | inr f ↦ ap (option_or (get merged n)) (sym (ap (find nat_cmp n) is ∙ ap (λ b. cond b (Some targets) (find nat_cmp n rest)) f))
    ]
    ∙ kept n

-- one that doesn't stand is added
pub merged_add :
    (merged after change edges : Edges) (before rest : List (ℕ × List ℕ)) (node : ℕ) (targets : List ℕ) → before ≡ (node, targets) ∷ rest → is_some (get merged node) ≡ false → after ≡ insert merged node targets
    → IsMergedSoFar merged before change edges → IsMergedSoFar after rest change edges
merged_add merged after change edges before rest node targets is none new kept n =
    let added : get after n ≡ cond (eq_by_cmp nat_cmp n node) (Some targets) (get merged n) = ap (λ m. get m n) new ∙ get-insert nat_cmp_total merged node targets n in
    let next : find nat_cmp n before ≡ cond (eq_by_cmp nat_cmp n node) (Some targets) (find nat_cmp n rest) = ap (find nat_cmp n) is in
    elim (cases_Bool (eq_by_cmp nat_cmp n node)) [
      | inl t ↦
          ap (λ o. option_or o (find nat_cmp n rest)) (added ∙ ap (λ b. cond b (Some targets) (get merged n)) t)
          ∙ sym (none_first (get merged n) (find nat_cmp n before) (ap (λ k. is_some (get merged k)) (((tie_decides nat_cmp_total nat_cmp-IsAntisymmetric) n node).0 t) ∙ none) ∙ next ∙ ap (λ b. cond b (Some targets) (find nat_cmp n rest)) t)
      | inr f ↦
          ap (λ o. option_or o (find nat_cmp n rest)) (added ∙ ap (λ b. cond b (Some targets) (get merged n)) f)
          ∙ sym (ap (option_or (get merged n)) (next ∙ ap (λ b. cond b (Some targets) (find nat_cmp n rest)) f))
    ]
    ∙ kept n

pub merged_done : (merged change edges : Edges) (rest : List (ℕ × List ℕ)) → rest ≡ [] → IsMergedSoFar merged rest change edges → IsMerged merged change edges
merged_done merged change edges rest is kept n = sym (or_none (get merged n)) ∙ ap (λ es. option_or (get merged n) (find nat_cmp n es)) (sym is) ∙ kept n

-- ---- the candidates

pub covered : (edges : Edges) (pins candidates : List ℕ) (found held : FinMap nat_cmp Unit) → ((n : ℕ) → IsTrue (contains_key found n) → IsReached (targets_by edges) candidates n)
    → ((n : ℕ) → IsTrue (contains_key held n) → IsReached (targets_by edges) pins n) → ((n : ℕ) → IsTrue (contains_key edges n) → IsTrue (contains_key found n || contains_key held n)) → IsCovered edges pins candidates
covered edges pins candidates found held by_candidates by_pins each n live unreached = elim (or_cases (contains_key found n) (contains_key held n) (each n live)) [
  | inl f ↦ by_candidates n f
  | inr h ↦ absurd (unreached (by_pins n h))
]

pub covered_dead : (g : Graph) (edges : Edges) (pins candidates : List ℕ) → g.edges ≡ edges → g.pins ≡ pins → IsCovered edges pins candidates → (n : ℕ) → IsDead g n → IsReached (edges_from g) candidates n
covered_dead g edges pins candidates e p h n d =
    subst (λ (m : Edges). IsReached (targets_by m) candidates n) (sym e)
    (h n (subst (λ (m : Edges). IsTrue (contains_key m n)) e d.0)
    (λ r. d.1 (subst (λ (m : Edges). IsReached (targets_by m) g.pins n) (sym e) (subst (λ (ps : List ℕ). IsReached (targets_by edges) ps n) (sym p) r))))

pub inside_live : (g : Graph) (edges : Edges) (nodes : List ℕ) → g.edges ≡ edges → AreInside edges nodes → All (IsLive g) nodes
inside_live g edges nodes e h = subst (λ (m : Edges). AreInside m nodes) (sym e) h

-- ---- a walk

pub ahead_start : (edges : Edges) (starts stack : List ℕ) → stack ≡ starts → All (IsReached (targets_by edges) starts) stack
ahead_start edges starts stack is =
    subst (All (IsReached (targets_by edges) starts)) (sym is)
    (All-from_get_or (IsReached (targets_by edges) starts) starts 0 (λ i inside. reached_start (targets_by edges) starts (get_or starts i 0) (Contains-get_or starts i 0 inside)))

pub ahead_more :
    (edges : Edges) (starts before stack pushed targets : List ℕ) (node : ℕ) → before ≡ stack ++ node ∷ [] → targets ≡ targets_by edges node → pushed ≡ stack ++ targets
    → All (IsReached (targets_by edges) starts) before → All (IsReached (targets_by edges) starts) pushed
ahead_more edges starts before stack pushed targets node is found push all =
    let P = IsReached (targets_by edges) starts in
    subst (All P) (sym (push ∙ ap (λ (xs : List ℕ). stack ++ xs) found))
    (All-append P stack (targets_by edges node) (rest_holds P before stack node is all)
    (All-from_get_or P (targets_by edges node) 0 (λ i inside. reached_step (targets_by edges) starts node (get_or (targets_by edges node) i 0) (top_holds P before stack node is all) (Contains-get_or (targets_by edges node) i 0 inside))))

-- ---- a commit

edges_changed : (g h : Graph) (edges change : Edges) (set : List (ℕ × List ℕ)) (dead ds : List ℕ) → h.edges ≡ g.edges → ds ≡ dead → IsMerged edges change (removed dead g.edges) → set ≡ entries change → filled set (removed ds h.edges) ≡ edges
edges_changed g h edges change set dead ds kept same merged rows = ap (λ ns. filled set (removed ns h.edges)) same ∙ ap (λ m. filled set (removed dead m)) kept ∙ edges_overlaid edges change (removed dead g.edges) set merged rows

pub closed_changed :
    (g h : Graph) (edges change : Edges) (set : List (ℕ × List ℕ)) (pins ps dead ds : List ℕ) → h.edges ≡ g.edges → ds ≡ dead → IsMerged edges change (removed dead g.edges) → set ≡ entries change → pins ≡ ps
    → ((spare : ℕ) → IsClosed (shown edges ps spare)) → IsClosed (committed h set pins ds)
closed_changed g h edges change set pins ps dead ds kept same merged rows pinned closed =
    subst (λ (m : Edges). IsClosed (shown m pins h.spare)) (sym (edges_changed g h edges change set dead ds kept same merged rows))
    (subst (λ (xs : List ℕ). IsClosed (shown edges xs h.spare)) (sym pinned) (closed h.spare))

pub few_changed :
    (g h : Graph) (edges change : Edges) (set : List (ℕ × List ℕ)) (pins dead ds : List ℕ) → h.edges ≡ g.edges → ds ≡ dead → IsMerged edges change (removed dead g.edges) → set ≡ entries change
    → edge_total edges + 1 < 2 ^ 32 → edge_total (committed h set pins ds).edges + 1 < 2 ^ 32
few_changed g h edges change set pins dead ds kept same merged rows few = subst (λ (m : Edges). edge_total m + 1 < 2 ^ 32) (sym (edges_changed g h edges change set dead ds kept same merged rows)) few

pub live_after : (g h : Graph) (dead ds : List ℕ) → h.edges ≡ g.edges → ds ≡ dead → All (IsLive g) dead → All (IsLive h) ds
live_after g h dead ds kept same live = subst (All (IsLive h)) (sym same) (subst (λ (m : Edges). AreInside m dead) (sym kept) live)
