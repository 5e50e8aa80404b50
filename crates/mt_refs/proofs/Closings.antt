-- No edge leads out of a graph, and there is room for each of its nodes.
use Rattle.std.proofs.Common.{ℕ, ◌<◌, ◌≤◌, ◌≡◌, true, false, cond, List, [], ◌∷◌, Option, Some, None, ap, sym, subst, refl, ◌∙◌, arith}
use Rattle.std.specs.Bool.{IsTrue}
use Rattle.std.specs.List.{All, AllByRecursion}
use Rattle.std.specs.List.Sorted.{IsStrictlySortedBy}
use Rattle.std.specs.Option.{is_some, option_or}
use Rattle.std.specs.Ordering.{nat_cmp, eq_by_cmp, is_eq}
use Rattle.std.specs.Cmp.{nat_cmp_total}
use Rattle.std.specs.declared.cmp.Ordering.TheVariants.{Less}
use Rattle.std.specs.FinMap.{contains_key, empty, find, get, get-empty, nat_cmp-IsAntisymmetric}
use Rattle.std.proofs.lemmas.Bool.{false≢true}
use Rattle.std.proofs.lemmas.List.Elements.{All-cons, All-nil, All-weaker}
use Rattle.mt_containers.proofs.Members.{tie_decides}
use Rattle.mt_refs.specs.Lists.{targets_in}
use Rattle.mt_refs.specs.Graphs.{Graph, IsClosed, IsLive, IsSound}
use Rattle.mt_refs.specs.Patches.{committed, nodes_of, removed}
use Rattle.mt_refs.proofs.Fills.{below_filled, get_filled, live_removed}
use Rattle.mt_refs.proofs.Rows.{ties}

-- ---- no node

no_list : IsTrue (is_some {T = List ℕ} None) → ⊥
no_list h = absurd (false≢true h)

pub sound_empty : IsSound (record { edges = empty; pins = []; spare = 0 })
sound_empty = record {
  closed = record {
    edges = λ n. subst (λ o. All (λ t. IsTrue (contains_key (empty {X = List ℕ} {R = nat_cmp}) t)) (targets_in o)) (sym (get-empty nat_cmp n)) (All-nil (λ t. IsTrue (contains_key (empty {X = List ℕ} {R = nat_cmp}) t)));
    pins = All-nil (λ t. IsTrue (contains_key (empty {X = List ℕ} {R = nat_cmp}) t));
  };
  below = λ n h. absurd (no_list (subst (λ o. IsTrue (is_some o)) (get-empty nat_cmp n) h));
}

-- ---- more room

pub sound_room : (g h : Graph) → IsSound g → h.edges ≡ g.edges → h.pins ≡ g.pins → g.spare ≤ h.spare → IsSound h
sound_room g h s e p room = record {
  closed = record {
    edges = λ n. subst (λ m. All (λ t. IsTrue (contains_key m t)) (targets_in (get m n))) (sym e) (s.closed.edges n);
    pins = subst (All (IsLive h)) (sym p) (subst (λ m. All (λ t. IsTrue (contains_key m t)) g.pins) (sym e) s.closed.pins);
  };
  below = λ n live. let low = s.below n (subst (λ m. IsTrue (contains_key m n)) e live) in omega arith;
}

-- ---- after a commit

-- a number below those of a list is not among them
find_above : (q : ℕ) (set : List (ℕ × List ℕ)) → AllByRecursion (λ y. nat_cmp q y ≡ Less) (nodes_of set) → find nat_cmp q set ≡ None
find_above q [] h = refl
find_above q (s ∷ set) h = ap (λ b. cond b (Some s.1) (find nat_cmp q set)) (ap is_eq h.0) ∙ find_above q set h.1

none_some : {X : Type 0} (o : Option X) (x : X) → o ≡ None → o ≡ Some x → ⊥
none_some o x e f = absurd (false≢true (ap is_some (sym e ∙ f)))

-- what holds of each list that a look-up finds holds of each list, where a node has one
each_found : (P : List ℕ → Type 0) (set : List (ℕ × List ℕ)) → IsStrictlySortedBy nat_cmp (nodes_of set) → ((q : ℕ) (es : List ℕ) → find nat_cmp q set ≡ Some es → P es) → All (λ s. P s.1) set
unfolding IsStrictlySortedBy
each_found P [] h all = All-nil (λ s. P s.1)
each_found P (s ∷ set) h all =
    All-cons (λ (s : ℕ × List ℕ). P s.1) s set
    (all s.0 s.1 (ap (λ b. cond b (Some s.1) (find nat_cmp s.0 set)) (ties s.0 s.0 refl)))
    (each_found P set h.1 (λ q es f. all q es
    (elim (eq_by_cmp nat_cmp q s.0) as (λ b. eq_by_cmp nat_cmp q s.0 ≡ b → cond b (Some s.1) (find nat_cmp q set) ≡ Some es) [
      | true ↦ λ e. absurd (none_some (find nat_cmp s.0 set) es (find_above s.0 set h.0) (subst (λ k. find nat_cmp k set ≡ Some es) (((tie_decides nat_cmp_total nat_cmp-IsAntisymmetric) q s.0).0 e) f))
      | false ↦ λ e. f
    ] refl)))

module _ (g : Graph) (set : List (ℕ × List ℕ)) (pins dead : List ℕ) (sound : IsSound g) (nodes : All (λ s. s.0 < g.spare) set) where
  below_committed : (n : ℕ) → IsLive (committed g set pins dead) n → n < g.spare
  below_committed n h = below_filled g.spare set (removed dead g.edges) nodes (λ q live. sound.below q (live_removed dead g.edges q live)) n h

  module _ (closed : IsClosed (committed g set pins dead)) where
    pub sound_committed : IsSound (committed g set pins dead)
    sound_committed = record { closed = closed; below = below_committed }

    pub pins_below : All (λ n. n < g.spare) pins
    pins_below = All-weaker (IsLive (committed g set pins dead)) (λ n. n < g.spare) below_committed pins closed.pins

    pub targets_below : IsStrictlySortedBy nat_cmp (nodes_of set) → All (λ s. All (λ t. t < g.spare) s.1) set
    targets_below h = each_found (All (λ t. t < g.spare)) set h (λ q es f.
        All-weaker (IsLive (committed g set pins dead)) (λ t. t < g.spare) below_committed es
        (subst (λ o. All (IsLive (committed g set pins dead)) (targets_in o)) (get_filled set (removed dead g.edges) q ∙ ap (λ o. option_or o (get (removed dead g.edges) q)) f) (closed.edges q)))
