-- What the walk from the candidates gives.
use Rattle.std.proofs.Common.{ℕ, ◌+◌, ◌≤◌, ◌≡◌, Bool, List, length, get_or, filter, sym, subst}
use Rattle.std.specs.Prelude.{◌↔◌}
use Rattle.std.specs.Bool.{IsTrue}
use Rattle.std.specs.List.{All, Contains}
use Rattle.std.specs.List.Sorted.{IsStrictlySortedBy}
use Rattle.std.specs.Ordering.{nat_cmp}
use Rattle.std.specs.FinMap.{FinMap, contains_key, keys}
use Rattle.std.proofs.lemmas.List.Elements.{All-from_get_or, Contains-get_or}
use Rattle.mt_containers.specs.Walks.{IsReached}
use Rattle.mt_containers.proofs.Members.{contains_filter}
use Rattle.mt_containers.proofs.Tables.{keys_sorted}
use Rattle.mt_containers.proofs.Walks.{reached_inside, reached_step}
use Rattle.mt_refs.specs.Graphs.{Graph, IsLive, edges_from}
use Rattle.mt_trial.specs.Deaths.{reads_of}
use Rattle.mt_trial.proofs.Ascents.{sum_le}
use Rattle.mt_trial.proofs.Keys.{contains_of_key, key_contains}

-- nodes that are just those that candidates reach
pub record AreReached (g : Graph) (candidates nodes : List ℕ) : Type 0 where
  pub exact : (n : ℕ) → Contains nodes n ↔ IsReached (edges_from g) candidates n
  pub ascending : IsStrictlySortedBy nat_cmp nodes
  pub live : All (IsLive g) nodes

module _ (g : Graph) (candidates : List ℕ) where
  -- the keys of what a walk gives
  pub are_reached : (starts nodes : List ℕ) (reached : FinMap nat_cmp Unit) → starts ≡ candidates → nodes ≡ keys reached → ((n : ℕ) → IsTrue (contains_key reached n) ↔ IsReached (edges_from g) starts n) → ((n : ℕ) → IsTrue (contains_key reached n) → IsLive g n) → AreReached g candidates nodes
  are_reached starts nodes reached same listed all live =
      let has_key = λ (n : ℕ) (w : Contains nodes n). key_contains reached n (subst (λ (xs : List ℕ). Contains xs n) listed w) in
      record {
        exact = λ n. (
          λ w. subst (λ (xs : List ℕ). IsReached (edges_from g) xs n) same ((all n).0 (has_key n w)),
          λ r. subst (λ (xs : List ℕ). Contains xs n) (sym listed) (contains_of_key reached n ((all n).1 (subst (λ (xs : List ℕ). IsReached (edges_from g) xs n) (sym same) r))),
        );
        ascending = subst (IsStrictlySortedBy nat_cmp) (sym listed) (keys_sorted nat_cmp reached);
        live = All-from_get_or (IsLive g) nodes 0 (λ i inside. live (get_or nodes i 0) (has_key (get_or nodes i 0) (Contains-get_or nodes i 0 inside)));
      }

  -- what is reached from the same nodes is in a list that has it
  pub has_reached : (starts nodes : List ℕ) → starts ≡ candidates → ((n : ℕ) → Contains nodes n ↔ IsReached (edges_from g) candidates n) → (n : ℕ) → IsReached (edges_from g) starts n → Contains nodes n
  has_reached starts nodes same is n r = (is n).1 (subst (λ (xs : List ℕ). IsReached (edges_from g) xs n) same r)

  module _ (nodes : List ℕ) (h : AreReached g candidates nodes) where
    -- no edge leads out of them
    pub nodes_closed : (n t : ℕ) → Contains nodes n → Contains (edges_from g n) t → Contains nodes t
    nodes_closed n t w s = (h.exact t).1 (reached_step (edges_from g) candidates n t ((h.exact n).0 w) s)

    -- what some of them reach is among them
    pub held_inside : (test : ℕ → Bool) (held : List ℕ) → held ≡ filter test nodes → (n : ℕ) → IsReached (edges_from g) held n → Contains nodes n
    held_inside test held is n r =
        let from = subst (λ (xs : List ℕ). IsReached (edges_from g) xs n) is r in
        reached_inside (edges_from g) (filter test nodes) nodes (record { begun = λ k w. (contains_filter test nodes k w).0; followed = nodes_closed }) n from

    -- to read them costs no more than to read ascending nodes that have all that is reached
    pub reads_least : (ms : List ℕ) → IsStrictlySortedBy nat_cmp ms → ((n : ℕ) → Contains ms n ↔ IsReached (edges_from g) candidates n) → reads_of g nodes ≤ reads_of g ms
    reads_least ms ascending is = sum_le (λ n. length (edges_from g n) + 1) nodes ms h.ascending ascending (λ n w. (is n).1 ((h.exact n).0 w))
