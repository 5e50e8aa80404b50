-- A walk from some nodes, so far as it has come.
use Rattle.std.proofs.Common.{ℕ, ◌+◌, ◌-◌, ◌<◌, ◌≡◌, ◌++◌, ◌∙◌, false, cond, List, [], ◌∷◌, Option, Some, None, is_some, length, get_or, length-append, inl, inr, ap, sym, subst, refl, arith}
use Rattle.std.specs.Prelude.{◌↔◌}
use Rattle.std.specs.Bool.{IsTrue}
use Rattle.std.specs.List.{All, Contains}
use Rattle.std.specs.Ordering.{nat_cmp, eq_by_cmp}
use Rattle.std.specs.Cmp.{nat_cmp_total}
use Rattle.std.specs.FinMap.{FinMap, contains_key, empty, get, get-empty, get-insert, insert, keys, nat_cmp-IsAntisymmetric}
use Rattle.std.proofs.lemmas.Bool.{cases_Bool, false≢true}
use Rattle.std.proofs.lemmas.List.Elements.{All-contains, All-from_get_or, Contains-append_left, Contains-get_or, Contains-push}
use Rattle.mt_containers.specs.Walks.{IsReached}
use Rattle.mt_containers.specs.Explorations.{IsExplored}
use Rattle.mt_containers.proofs.Explorations.{explored_empty, explored_has, explored_insert, explored_only, explored_skip}
use Rattle.mt_containers.proofs.Members.{tie_decides}
use Rattle.mt_refs.specs.Graphs.{Graph, edge_total, edges_from}
use Rattle.mt_trial.proofs.Costs.{size_from, size_insert, size_within}

module _ (g : Graph) (starts : List ℕ) where
  -- the nodes that were read, and those that wait
  abbrev pub IsWalked : FinMap nat_cmp Unit → List ℕ → Type 0
  IsWalked reached stack = IsExplored (edges_from g) starts (λ _. tt) (get reached) stack

  pub walked_start : (reached : FinMap nat_cmp Unit) → reached ≡ empty → IsWalked reached starts
  walked_start reached is = subst (λ m. IsWalked m starts) (sym is) (explored_empty nat_cmp_total nat_cmp-IsAntisymmetric (edges_from g) starts (λ _. tt))

  -- the node on top was read already
  pub walked_skip : (reached : FinMap nat_cmp Unit) (before stack : List ℕ) (node : ℕ) → before ≡ stack ++ node ∷ [] → IsWalked reached before → IsTrue (contains_key reached node) → IsWalked reached stack
  walked_skip reached before stack node is h has = explored_skip (edges_from g) starts (λ _. tt) (get reached) stack node (subst (IsWalked reached) is h) has

  -- the node on top is read
  pub walked_more : (reached : FinMap nat_cmp Unit) (before stack : List ℕ) (node : ℕ) → before ≡ stack ++ node ∷ [] → IsWalked reached before → IsWalked (insert reached node tt) (stack ++ edges_from g node)
  walked_more reached before stack node is h = explored_insert nat_cmp_total nat_cmp-IsAntisymmetric (edges_from g) starts (λ _. tt) reached stack node (subst (IsWalked reached) is h)

  pub walked_turn :
      (reached after : FinMap nat_cmp Unit) (before stack pushed edges : List ℕ) (node : ℕ) → before ≡ stack ++ node ∷ [] → after ≡ insert reached node tt → edges ≡ edges_from g node → pushed ≡ stack ++ edges
      → IsWalked reached before → IsWalked after pushed
  walked_turn reached after before stack pushed edges node is new read push h =
      subst (λ m. IsWalked m pushed) (sym new)
      (subst (IsWalked (insert reached node tt)) (sym (push ∙ ap (λ xs. stack ++ xs) read)) (walked_more reached before stack node is h))

  -- what was read is reached
  pub walked_only : (reached : FinMap nat_cmp Unit) (stack : List ℕ) → IsWalked reached stack → (n : ℕ) → IsTrue (contains_key reached n) → IsReached (edges_from g) starts n
  walked_only reached stack h n has = explored_only (edges_from g) starts (λ _. tt) (get reached) stack h n has

  -- and where nothing waits, what is reached was read
  pub walked_all : (reached : FinMap nat_cmp Unit) → IsWalked reached [] → (n : ℕ) → IsTrue (contains_key reached n) ↔ IsReached (edges_from g) starts n
  walked_all reached h n = (walked_only reached [] h n, λ r. ap is_some (explored_has (edges_from g) starts (λ _. tt) (get reached) h n r))

-- ---- what holds of each node

pub none_read : (reached : FinMap nat_cmp Unit) → reached ≡ empty → (n : ℕ) → IsTrue (contains_key reached n) → ⊥
none_read reached is n has = false≢true (sym (ap (λ m. contains_key m n) is ∙ ap is_some (get-empty nat_cmp n)) ∙ has)

pub unread : (o : Option Unit) → is_some o ≡ false → o ≡ None
unread None h = refl
unread (Some x) h = absurd (false≢true (sym h))

-- what holds of the nodes that were read, and of one more
pub read_more : (P : ℕ → Type 0) (reached after : FinMap nat_cmp Unit) (node : ℕ) → after ≡ insert reached node tt → P node → ((n : ℕ) → IsTrue (contains_key reached n) → P n) → (n : ℕ) → IsTrue (contains_key after n) → P n
read_more P reached after node new here met n has =
    let found : get after n ≡ cond (eq_by_cmp nat_cmp n node) (Some tt) (get reached n) = ap (λ m. get m n) new ∙ get-insert nat_cmp_total reached node tt n in
    elim (cases_Bool (eq_by_cmp nat_cmp n node)) [
      | inl t ↦ subst P (sym (((tie_decides nat_cmp_total nat_cmp-IsAntisymmetric) n node).0 t)) here
      | inr f ↦ met n (sym (ap is_some (found ∙ ap (λ b. cond b (Some tt) (get reached n)) f)) ∙ has)
    ]

-- what holds of each that waits holds of the one on top, and of the others
pub top_holds : (P : ℕ → Type 0) (before stack : List ℕ) (node : ℕ) → before ≡ stack ++ node ∷ [] → All P before → P node
top_holds P before stack node is all = All-contains P before node all (subst (λ (xs : List ℕ). Contains xs node) (sym is) (Contains-push stack node))

pub rest_holds : (P : ℕ → Type 0) (before stack : List ℕ) (node : ℕ) → before ≡ stack ++ node ∷ [] → All P before → All P stack
rest_holds P before stack node is all =
    All-from_get_or P stack 0
    (λ i inside. All-contains P before (get_or stack i 0) all (subst (λ (xs : List ℕ). Contains xs (get_or stack i 0)) (sym is) (Contains-append_left stack (node ∷ []) (get_or stack i 0) (Contains-get_or stack i 0 inside))))

-- ---- the walk ends

-- each node that is read leaves fewer edges to read
pub fewer_left :
    (g : Graph) (reached after : FinMap nat_cmp Unit) (before stack pushed edges : List ℕ) (node : ℕ) → before ≡ stack ++ node ∷ [] → after ≡ insert reached node tt → edges ≡ edges_from g node → pushed ≡ stack ++ edges
    → get reached node ≡ None → length pushed + (edge_total g.edges - size_from g (keys after)) < length before + (edge_total g.edges - size_from g (keys reached))
fewer_left g reached after before stack pushed edges node is new read push none =
    let old : length before ≡ length stack + 1 = ap (λ xs. length xs) is ∙ length-append stack (node ∷ []) in
    let now : length pushed ≡ length stack + length edges = ap (λ xs. length xs) push ∙ length-append stack edges in
    let item : length edges ≡ length (edges_from g node) = ap (λ xs. length xs) read in
    let size : size_from g (keys after) ≡ size_from g (keys reached) + length (edges_from g node) = ap (λ m. size_from g (keys m)) new ∙ size_insert g reached node none in
    let most = size_within g after in
    omega arith
