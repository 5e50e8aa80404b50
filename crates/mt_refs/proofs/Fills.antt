-- Lists set and nodes removed, one row after another.
use Rattle.std.proofs.Common.{ℕ, ◌≡◌, ◌<◌, Bool, true, false, cond, List, [], ◌∷◌, ◌++◌, Option, Some, None, ap, sym, subst, refl, ◌∙◌}
use Rattle.std.specs.Prelude.{◌||◌}
use Rattle.std.specs.Bool.{IsTrue}
use Rattle.std.specs.Option.{is_some, option_or}
use Rattle.std.specs.Ordering.{nat_cmp, eq_by_cmp}
use Rattle.std.specs.Cmp.{nat_cmp_total}
use Rattle.std.specs.List.{All, list_any}
use Rattle.std.specs.FinMap.{contains_key, find, get, get-insert, get-remove, same_map, nat_cmp-IsAntisymmetric}
use Rattle.std.proofs.lemmas.Bool.{false≢true}
use Rattle.std.proofs.lemmas.List.Elements.{All-head, All-tail}
use Rattle.mt_containers.proofs.Members.{tie_decides}
use Rattle.mt_refs.specs.Graphs.{Edges}
use Rattle.mt_refs.specs.Patches.{with_list, removed, filled, nodes_of}

-- one list more is set first
pub filled_push : (set : List (ℕ × List ℕ)) (n : ℕ) (targets : List ℕ) (edges : Edges) → filled (set ++ (n, targets) ∷ []) edges ≡ filled set (with_list edges n (Some targets))
filled_push [] n targets edges = refl
filled_push (s ∷ set) n targets edges = ap (λ a. with_list a s.0 (Some s.1)) (filled_push set n targets edges)

-- ---- at one number

found_or : {X : Type 0} (b : Bool) (x : X) (o p : Option X) → cond b (Some x) (option_or o p) ≡ option_or (cond b (Some x) o) p
found_or true x o p = refl
found_or false x o p = refl

-- what is there is the list that is set, or else what was there
pub get_filled : (set : List (ℕ × List ℕ)) (edges : Edges) (q : ℕ) → get (filled set edges) q ≡ option_or (find nat_cmp q set) (get edges q)
get_filled [] edges q = refl
get_filled (s ∷ set) edges q = get-insert nat_cmp_total (filled set edges) s.0 s.1 q
    ∙ ap (cond (eq_by_cmp nat_cmp q s.0) (Some s.1)) (get_filled set edges q)
    ∙ found_or (eq_by_cmp nat_cmp q s.0) s.1 (find nat_cmp q set) (get edges q)

either : {X : Type 0} (e l : Bool) (x : Option X) → cond l None (cond e None x) ≡ cond (e || l) None x
either true true x = refl
either true false x = refl
either false l x = refl

pub get_removed : (ns : List ℕ) (edges : Edges) (q : ℕ) → get (removed ns edges) q ≡ cond (list_any (eq_by_cmp nat_cmp q) ns) None (get edges q)
get_removed [] edges q = refl
get_removed (n ∷ ns) edges q = get_removed ns (with_list edges n None) q
    ∙ ap (cond (list_any (eq_by_cmp nat_cmp q) ns) None) (get-remove nat_cmp_total edges n q)
    ∙ either (eq_by_cmp nat_cmp q n) (list_any (eq_by_cmp nat_cmp q) ns) (get edges q)

-- a number that isn't set has no list there
find_none : (q : ℕ) (set : List (ℕ × List ℕ)) → find nat_cmp q set ≡ None → list_any (eq_by_cmp nat_cmp q) (nodes_of set) ≡ false
find_none q [] h = refl
find_none q (s ∷ set) h = elim (eq_by_cmp nat_cmp q s.0) as (λ b. cond b (Some s.1) (find nat_cmp q set) ≡ None → (b || list_any (eq_by_cmp nat_cmp q) (nodes_of set)) ≡ false) [
  | true ↦ λ e. absurd (false≢true (ap is_some (sym e)))
  | false ↦ λ e. find_none q set e
] h

-- what was at a number that is set doesn't matter
alike : (q : ℕ) (set : List (ℕ × List ℕ)) (x y : Option (List ℕ)) → (list_any (eq_by_cmp nat_cmp q) (nodes_of set) ≡ false → x ≡ y) → option_or (find nat_cmp q set) x ≡ option_or (find nat_cmp q set) y
alike q set x y h = elim (find nat_cmp q set) as (λ o. find nat_cmp q set ≡ o → option_or o x ≡ option_or o y) [
  | None ↦ λ e. h (find_none q set e)
  | Some v ↦ λ e. refl
] refl

-- to empty the rows first that are set then changes nothing
pub emptied_first : (set : List (ℕ × List ℕ)) (dead : List ℕ) (edges : Edges) → filled set (removed dead (removed (nodes_of set) edges)) ≡ filled set (removed dead edges)
emptied_first set dead edges = same_map nat_cmp_total nat_cmp-IsAntisymmetric _ _ (λ q.
    get_filled set (removed dead (removed (nodes_of set) edges)) q
    ∙ alike q set (get (removed dead (removed (nodes_of set) edges)) q) (get (removed dead edges) q) (λ h.
    get_removed dead (removed (nodes_of set) edges) q
    ∙ ap (cond (list_any (eq_by_cmp nat_cmp q) dead) None) (get_removed (nodes_of set) edges q ∙ ap (λ b. cond b None (get edges q)) h)
    ∙ sym (get_removed dead edges q))
    ∙ sym (get_filled set (removed dead edges) q))

-- ---- what has a list

nothing : IsTrue (is_some {T = List ℕ} None) → ⊥
nothing h = absurd (false≢true h)

still : (b : Bool) (o : Option (List ℕ)) → IsTrue (is_some (cond b None o)) → IsTrue (is_some o)
still true o h = absurd (nothing h)
still false o h = h

pub live_removed : (ns : List ℕ) (edges : Edges) (q : ℕ) → IsTrue (contains_key (removed ns edges) q) → IsTrue (contains_key edges q)
live_removed ns edges q h = still (list_any (eq_by_cmp nat_cmp q) ns) (get edges q) (subst (λ o. IsTrue (is_some o)) (get_removed ns edges q) h)

-- where the nodes that are set, and those with lists, are below a number, so are those that have lists then
pub below_filled : (sp : ℕ) (set : List (ℕ × List ℕ)) (edges : Edges) → All (λ s. s.0 < sp) set → ((q : ℕ) → IsTrue (contains_key edges q) → q < sp) → (q : ℕ) → IsTrue (contains_key (filled set edges) q) → q < sp
below_filled sp [] edges a low q h = low q h
below_filled sp (s ∷ set) edges a low q h =
    elim (eq_by_cmp nat_cmp q s.0) as (λ b. eq_by_cmp nat_cmp q s.0 ≡ b → IsTrue (is_some (cond b (Some s.1) (get (filled set edges) q))) → q < sp) [
      | true ↦ λ e k. subst (λ n. n < sp) (sym (((tie_decides nat_cmp_total nat_cmp-IsAntisymmetric) q s.0).0 e)) (All-head (λ (s : ℕ × List ℕ). s.0 < sp) s set a)
      | false ↦ λ e k. below_filled sp set edges (All-tail (λ (s : ℕ × List ℕ). s.0 < sp) s set a) low q k
    ] refl (subst (λ o. IsTrue (is_some o)) (get-insert nat_cmp_total (filled set edges) s.0 s.1 q) h)
