-- The children of a folder that are found on ascending paths: each of them, and none twice.
use Rattle.std.proofs.Common.{◌⊎◌, inl, inr, ◌≡◌, ◌≢◌, suc, ◌∙◌, ◌&&◌, arith, ℕ, true, false, List, [], ◌∷◌, ◌++◌, Option, Some, None, refl, sym, ap, subst, if◌then◌else◌, ◌||◌, get_or, length, zero, Bool, ◌<◌}
use Rattle.std.specs.Bool.{nat_eq}
use Rattle.std.specs.Option.{IfSome, option_map, option_and_then}
use Rattle.std.specs.Ordering.{nat_cmp, eq_by_cmp, is_eq}
use Rattle.std.specs.declared.cmp.Ordering.TheVariants.{Less, Equal, Greater}
use Rattle.std.specs.Cmp.Lexicographic.{slice_cmp, nat_list_cmp_total}
use Rattle.std.specs.FinMap.{FinMap, keys, contains_key, contains_key-keys, slice_cmp-IsAntisymmetric, nat_cmp-IsAntisymmetric}
use Rattle.std.specs.List.{All, AllByRecursion, AllPairs, Any, Contains, list_any, starts_with}
use Rattle.std.specs.List.Sorted.{IsStrictlySortedBy}
use Rattle.std.specs.Str.{bytes_eq}
use Rattle.std.proofs.lemmas.Bool.{and_parts, and_from}
use Rattle.std.proofs.lemmas.List.Elements.{All-cons, All-nil, All-from_recursion, All-weaker, All-contains}
use Rattle.std.proofs.lemmas.List.Kept.{AllPairs-cons}
use Rattle.std.proofs.lemmas.Map.Keys.{sorted_head, sorted_tail}
use Rattle.mt_io.specs.Files.{child_toward, Files, IsChildrenOf, first_of, is_folder_in, rest_of}
use Rattle.mt_path.specs.Children.{prefix_of}
use Rattle.mt_path.specs.Names.{is_root}
use Rattle.mt_io.specs.declared.folder.Named.{Named}
use Rattle.mt_io.specs.declared.folder.NamedKind.{NamedKind}
use Rattle.mt_io.specs.declared.folder.NamedKind.TheVariants.{File, Folder, Other}
use Rattle.mt_io.specs.Children.{new_children, same_kind, unless_last}
use Rattle.mt_io.proofs.Rests.{Before, bytes_same, cmp_front, cmp_same, key, key_some, no_key, not_no_child, rest_parts, same_bytes, step_cmp}
use Rattle.mt_containers.proofs.Tables.{keys_sorted}

or_true : (a : Bool) → (a || true) ≡ true
or_true true = refl
or_true false = refl

same_kinds : (k l : NamedKind) → same_kind k l ≡ true → k ≡ l
same_kinds File File e = refl
same_kinds Folder Folder e = refl
same_kinds Other Other e = refl
same_kinds File Folder e = cc
same_kinds File Other e = cc
same_kinds Folder File e = cc
same_kinds Folder Other e = cc
same_kinds Other File e = cc
same_kinds Other Folder e = cc

is_last : (child : Named) (name : List ℕ) (kind : NamedKind) → (bytes_eq child.name name && same_kind child.kind kind) ≡ true → child ≡ record { name = name; kind = kind }
is_last child name kind e =
    let p = and_parts (bytes_eq child.name name) (same_kind child.kind kind) e in
    let n = same_bytes child.name name p.0 in
    let k = same_kinds child.kind kind p.1 in
    λ i. record { name = n i; kind = k i }

-- what is found from a path on, by where the path leads
by_rest :
    (M : List Named → Type 0) (prefix name : List ℕ) (kind : NamedKind) (path : List ℕ) (paths : List (List ℕ)) → (rest_of prefix path ≡ None → M (new_children prefix name kind paths))
    → ((rest : List ℕ) → rest_of prefix path ≡ Some rest → first_of rest ≡ record { name = name; kind = kind } → M (new_children prefix name kind paths))
    → ((rest : List ℕ) → rest_of prefix path ≡ Some rest → (bytes_eq (first_of rest).name name && same_kind (first_of rest).kind kind) ≡ false → M (first_of rest ∷ new_children prefix (first_of rest).name (first_of rest).kind paths))
    → M (new_children prefix name kind (path ∷ paths))
by_rest M prefix name kind path paths none old new =
    elim (rest_of prefix path) as (λ o.
    rest_of prefix path ≡ o
    → M (elim (option_and_then (λ rest. unless_last name kind (first_of rest)) o) [ None ↦ new_children prefix name kind paths | Some child ↦ child ∷ new_children prefix child.name child.kind paths ])) [
      | None ↦ none
      | Some rest ↦ λ e.
          elim (bytes_eq (first_of rest).name name && same_kind (first_of rest).kind kind) as (λ b.
          (bytes_eq (first_of rest).name name && same_kind (first_of rest).kind kind) ≡ b
          → M (elim (if b then None else Some (first_of rest)) [ None ↦ new_children prefix name kind paths | Some child ↦ child ∷ new_children prefix child.name child.kind paths ])) [
            | true ↦ λ t. old rest e (is_last (first_of rest) name kind t)
            | false ↦ λ t. new rest e t
          ] refl
    ] refl

-- ---- each

Leads : List ℕ → List (List ℕ) → Named → Type 0
Leads prefix paths child = Any (λ path. option_map first_of (rest_of prefix path) ≡ Some child) paths

leads_more : (prefix path : List ℕ) (paths : List (List ℕ)) (child : Named) → Leads prefix paths child → Leads prefix (path ∷ paths) child
unfolding Leads
leads_more prefix path paths child (k, x, inside, is, h) = (suc k, x, omega arith, is, h)

leads_here : (prefix path : List ℕ) (paths : List (List ℕ)) (rest : List ℕ) → rest_of prefix path ≡ Some rest → Leads prefix (path ∷ paths) (first_of rest)
unfolding Leads
leads_here prefix path paths rest e = (0, path, omega arith, refl, ap (option_map first_of) e)

all_lead : (prefix name : List ℕ) (kind : NamedKind) (paths : List (List ℕ)) → All (Leads prefix paths) (new_children prefix name kind paths)
all_lead prefix name kind [] = All-nil (Leads prefix [])
all_lead prefix name kind (path ∷ paths) =
    by_rest (All (Leads prefix (path ∷ paths))) prefix name kind path paths
    (λ _. All-weaker (Leads prefix paths) (Leads prefix (path ∷ paths)) (leads_more prefix path paths) _ (all_lead prefix name kind paths))
    (λ _ _ _. All-weaker (Leads prefix paths) (Leads prefix (path ∷ paths)) (leads_more prefix path paths) _ (all_lead prefix name kind paths))
    (λ rest e _.
    All-cons (Leads prefix (path ∷ paths)) (first_of rest) _ (leads_here prefix path paths rest e)
    (All-weaker (Leads prefix paths) (Leads prefix (path ∷ paths)) (leads_more prefix path paths) _ (all_lead prefix (first_of rest).name (first_of rest).kind paths)))

-- ---- all

contains_here : (x : Named) (xs : List Named) → Contains (x ∷ xs) x
contains_here x xs = (0, omega arith, refl)

contains_more : (x y : Named) (xs : List Named) → Contains xs y → Contains (x ∷ xs) y
contains_more x y xs (k, inside, is) = (suc k, omega arith, is)

-- the child of a path is the last one given, or among these
Has : List ℕ → Named → List Named → List ℕ → Type 0
Has prefix last names path = IfSome (option_map first_of (rest_of prefix path)) (λ child. (child ≡ last) ⊎ Contains names child)

has_by : (prefix : List ℕ) (last : Named) (names : List Named) (path : List ℕ) (o : Option (List ℕ)) → rest_of prefix path ≡ o → IfSome (option_map first_of o) (λ child. (child ≡ last) ⊎ Contains names child) → Has prefix last names path
unfolding Has
has_by prefix last names path o e h = rw e h

shifted : (prefix : List ℕ) (last child : Named) (names : List Named) (path : List ℕ) → Has prefix child names path → Has prefix last (child ∷ names) path
unfolding Has
shifted prefix last child names path h =
    elim (rest_of prefix path) as (λ o. IfSome (option_map first_of o) (λ c. (c ≡ child) ⊎ Contains names c) → IfSome (option_map first_of o) (λ c. (c ≡ last) ⊎ Contains (child ∷ names) c)) [
      | None ↦ λ _. tt
      | Some rest ↦ λ k. elim k [
        | inl e ↦ inr (subst (Contains (child ∷ names)) (sym e) (contains_here child names))
        | inr c ↦ inr (contains_more child (first_of rest) names c)
      ]
    ] h

all_shifted : (prefix : List ℕ) (last child : Named) (names : List Named) (paths : List (List ℕ)) → AllByRecursion (Has prefix child names) paths → AllByRecursion (Has prefix last (child ∷ names)) paths
all_shifted prefix last child names [] h = tt
all_shifted prefix last child names (path ∷ paths) h = (shifted prefix last child names path h.0, all_shifted prefix last child names paths h.1)

all_has : (prefix name : List ℕ) (kind : NamedKind) (paths : List (List ℕ)) → AllByRecursion (Has prefix (record { name = name; kind = kind }) (new_children prefix name kind paths)) paths
all_has prefix name kind [] = tt
all_has prefix name kind (path ∷ paths) =
    by_rest (λ names. AllByRecursion (Has prefix (record { name = name; kind = kind }) names) (path ∷ paths)) prefix name kind path paths
    (λ e. (has_by prefix _ _ path None e tt, all_has prefix name kind paths))
    (λ rest e same. (has_by prefix _ _ path (Some rest) e (inl same), all_has prefix name kind paths))
    (λ rest e _. (has_by prefix _ _ path (Some rest) e (inr (contains_here (first_of rest) _)), all_shifted prefix _ (first_of rest) _ paths (all_has prefix (first_of rest).name (first_of rest).kind paths)))

-- ---- once

After : List ℕ → Named → List ℕ → Type 0
After prefix last path = IfSome (rest_of prefix path) (λ rest. Before last (first_of rest) ⊎ (last ≡ first_of rest))

before_trans : (a b c : Named) → Before a b → Before b c → Before a c
before_trans a b c h k = nat_list_cmp_total.trans (key a) (key b) (key c) h k

not_before_itself : (a b : Named) → Before a b → a ≢ b
not_before_itself a b h e = let k : Before a a = subst (Before a) (sym e) h in let l = cmp_same (key a) in cc

all_before : (a b : Named) (cs : List Named) → Before a b → AllByRecursion (Before b) cs → AllByRecursion (Before a) cs
all_before a b [] h k = tt
all_before a b (c ∷ cs) h k = (before_trans a b c h k.0, all_before a b cs h k.1)

same_kind_itself : (k : NamedKind) → same_kind k k ≡ true
same_kind_itself File = refl
same_kind_itself Folder = refl
same_kind_itself Other = refl

not_last : (child last : Named) → (bytes_eq child.name last.name && same_kind child.kind last.kind) ≡ false → last ≡ child → ⊥
not_last child last e same =
    let f : (bytes_eq child.name child.name && same_kind child.kind child.kind) ≡ false = subst (λ (c : Named). (bytes_eq child.name c.name && same_kind child.kind c.kind) ≡ false) same e in
    let g : (bytes_eq child.name child.name && same_kind child.kind child.kind) ≡ true = and_from (bytes_eq child.name child.name) (same_kind child.kind child.kind) (bytes_same child.name) (same_kind_itself child.kind) in
    cc

after_one : (prefix path later rest : List ℕ) → rest_of prefix path ≡ Some rest → slice_cmp nat_cmp path later ≡ Less → After prefix (first_of rest) later
unfolding After
after_one prefix path later rest e less =
    elim (rest_of prefix later) as (λ o. rest_of prefix later ≡ o → IfSome o (λ r. Before (first_of rest) (first_of r) ⊎ (first_of rest ≡ first_of r))) [
      | None ↦ λ _. tt
      | Some r ↦ λ f.
          let p : path ≡ prefix ++ rest = (rest_parts prefix path rest e).0 in
          let q : later ≡ prefix ++ r = (rest_parts prefix later r f).0 in
          step_cmp rest r (sym (cmp_front prefix rest r) ∙ rw (p, q) at less)
    ] refl

all_after : (prefix path rest : List ℕ) (paths : List (List ℕ)) → rest_of prefix path ≡ Some rest → AllByRecursion (λ q. slice_cmp nat_cmp path q ≡ Less) paths → AllByRecursion (After prefix (first_of rest)) paths
all_after prefix path rest [] e h = tt
all_after prefix path rest (q ∷ qs) e h = (after_one prefix path q rest e h.0, all_after prefix path rest qs e h.1)

before_new : (prefix path rest : List ℕ) (last : Named) → rest_of prefix path ≡ Some rest → (bytes_eq (first_of rest).name last.name && same_kind (first_of rest).kind last.kind) ≡ false → After prefix last path → Before last (first_of rest)
unfolding After
before_new prefix path rest last e new h =
    let k : Before last (first_of rest) ⊎ (last ≡ first_of rest) = rw e at h in
    elim k [ inl b ↦ b | inr s ↦ absurd (not_last (first_of rest) last new s) ]

-- the children found ascend, so they differ
rising :
    (prefix name : List ℕ) (kind : NamedKind) (paths : List (List ℕ)) → IsStrictlySortedBy (slice_cmp nat_cmp) paths → AllByRecursion (After prefix (record { name = name; kind = kind })) paths
    → AllByRecursion (Before (record { name = name; kind = kind })) (new_children prefix name kind paths) × AllPairs (λ a b. a ≢ b) (new_children prefix name kind paths)
rising prefix name kind [] sorted after = (tt, λ i j d h k. absurd (omega arith))
rising prefix name kind (path ∷ paths) sorted after =
    by_rest (λ names. AllByRecursion (Before (record { name = name; kind = kind })) names × AllPairs (λ a b. a ≢ b) names) prefix name kind path paths
    (λ _. rising prefix name kind paths (sorted_tail (slice_cmp nat_cmp) path paths sorted) after.1)
    (λ _ _ _. rising prefix name kind paths (sorted_tail (slice_cmp nat_cmp) path paths sorted) after.1)
    (λ rest e new.
    let here = before_new prefix path rest (record { name = name; kind = kind }) e new after.0 in
    let more = rising prefix (first_of rest).name (first_of rest).kind paths (sorted_tail (slice_cmp nat_cmp) path paths sorted) (all_after prefix path rest paths e (sorted_head (slice_cmp nat_cmp) path paths sorted)) in
    ((here, all_before _ (first_of rest) _ here more.0), AllPairs-cons (λ a b. a ≢ b) (first_of rest) _ (All-weaker (Before (first_of rest)) (λ b. first_of rest ≢ b) (not_before_itself (first_of rest)) _ (All-from_recursion (Before (first_of rest)) _ more.0)) more.1))

-- ---- from the start

first_after : (prefix : List ℕ) (paths : List (List ℕ)) → AllByRecursion (After prefix (record { name = []; kind = File })) paths
unfolding After
first_after prefix [] = tt
first_after prefix (path ∷ paths) = (
  elim (rest_of prefix path) as (λ o. rest_of prefix path ≡ o → IfSome o (λ r. Before (record { name = []; kind = File }) (first_of r) ⊎ (record { name = []; kind = File } ≡ first_of r))) [
    | None ↦ λ _. tt
    | Some r ↦ λ e. inl (key_some r (record { name = []; kind = File }) (rest_parts prefix path r e).1 no_key)
  ] refl,
  first_after prefix paths,
)

among : (prefix : List ℕ) (names : List Named) (path : List ℕ) → Has prefix (record { name = []; kind = File }) names path → IfSome (option_map first_of (rest_of prefix path)) (Contains names)
unfolding Has
among prefix names path h =
    elim (rest_of prefix path) as (λ o. rest_of prefix path ≡ o → IfSome (option_map first_of o) (λ c. (c ≡ record { name = []; kind = File }) ⊎ Contains names c) → IfSome (option_map first_of o) (Contains names)) [
      | None ↦ λ _ _. tt
      | Some r ↦ λ e k. elim k [ inl s ↦ absurd (not_no_child r (rest_parts prefix path r e).1 s) | inr c ↦ c ]
    ] refl h

pub children_found : (tree : Files) (folder : List ℕ) → IsChildrenOf tree folder (new_children (prefix_of folder) [] File (keys tree))
unfolding Leads
children_found tree folder = record {
  each = all_lead (prefix_of folder) [] File (keys tree);
  whole = All-weaker (Has (prefix_of folder) (record { name = []; kind = File }) (new_children (prefix_of folder) [] File (keys tree))) _ (among (prefix_of folder) (new_children (prefix_of folder) [] File (keys tree))) (keys tree) (All-from_recursion _ (keys tree) (all_has (prefix_of folder) [] File (keys tree)));
  once = (rising (prefix_of folder) [] File (keys tree) (keys_sorted (slice_cmp nat_cmp) tree) (first_after (prefix_of folder) (keys tree))).1;
}

-- ---- for callers

pub tied_is : (a b : List ℕ) → eq_by_cmp (slice_cmp nat_cmp) a b ≡ true → a ≡ b
tied_is a b e =
    elim (slice_cmp nat_cmp a b) as (λ o. slice_cmp nat_cmp a b ≡ o → is_eq o ≡ true → a ≡ b) [
      | Less ↦ λ p h. cc
      | Equal ↦ λ p h. slice_cmp-IsAntisymmetric nat_cmp-IsAntisymmetric a b p
      | Greater ↦ λ p h. cc
    ] refl e

listed_key : (ks : List (List ℕ)) (q : List ℕ) → list_any (eq_by_cmp (slice_cmp nat_cmp) q) ks ≡ true → Contains ks q
listed_key [] q h = cc
listed_key (k ∷ ks) q h =
    elim (eq_by_cmp (slice_cmp nat_cmp) q k) as (λ b. eq_by_cmp (slice_cmp nat_cmp) q k ≡ b → (b || list_any (eq_by_cmp (slice_cmp nat_cmp) q) ks) ≡ true → Contains (k ∷ ks) q) [
      | true ↦ λ e _. (0, omega arith, sym (tied_is q k e))
      | false ↦ λ _ h. let c = listed_key ks q h in (suc c.0, (let l = c.1 in omega arith), c.2)
    ] refl h

found : (ks : List (List ℕ)) (q : List ℕ) (i : ℕ) → i < length ks → get_or ks i q ≡ q → list_any (eq_by_cmp (slice_cmp nat_cmp) q) ks ≡ true
found [] q i inside is = grind arith
found (k ∷ ks) q zero inside is = rw (is, cmp_same q) refl
found (k ∷ ks) q (suc i) inside is = rw (found ks q i (omega arith) is) (or_true (eq_by_cmp (slice_cmp nat_cmp) q k))

-- what is among the keys of a map is in it
pub key_there : {X : Type 0} (m : FinMap (slice_cmp nat_cmp) X) (q : List ℕ) → Contains (keys m) q → contains_key m q ≡ true
key_there m q (i, inside, is) = contains_key-keys m q ∙ found (keys m) q i inside is

-- a name that a folder lists is the child through which a file's path leads
pub child_met : (tree : Files) (folder : List ℕ) (names : List Named) → IsChildrenOf tree folder names → (child : Named) → Contains names child → (path : List ℕ) × (contains_key tree path ≡ true) × (child_toward folder path ≡ Some child)
child_met tree folder names h child c =
    let any : Any (λ path. child_toward folder path ≡ Some child) (keys tree) = All-contains (λ n. Any (λ path. child_toward folder path ≡ Some n) (keys tree)) names child h.each c in
    (any.1, contains_key-keys tree any.1 ∙ found (keys tree) any.1 any.0 any.2 any.3, any.4)

-- the child through which a file's path leads is one that the folder lists
pub child_told : (tree : Files) (folder : List ℕ) (names : List Named) → IsChildrenOf tree folder names → (path : List ℕ) (child : Named) → contains_key tree path ≡ true → child_toward folder path ≡ Some child → Contains names child
child_told tree folder names h path child has leads =
    let c = listed_key (keys tree) path (sym (contains_key-keys tree path) ∙ has) in
    let k : IfSome (child_toward folder path) (Contains names) = All-contains (λ p. IfSome (child_toward folder p) (Contains names)) (keys tree) path h.whole c in
    rw leads at k

begins : (prefix : List ℕ) (ks : List (List ℕ)) (q : List ℕ) → Contains ks q → starts_with nat_eq q prefix ≡ true → list_any (λ path. starts_with nat_eq path prefix) ks ≡ true
begins prefix [] q (i, inside, is) h = absurd (omega arith)
begins prefix (k ∷ ks) q (zero, inside, is) h = rw (is, h) refl
begins prefix (k ∷ ks) q (suc i, inside, is) h = rw (begins prefix ks q (i, omega arith, is) h) (or_true (starts_with nat_eq k prefix))

-- a folder is there where the path of a file begins with its path and a `/`
pub folder_there : (tree : Files) (folder path : List ℕ) → contains_key tree path ≡ true → starts_with nat_eq path (prefix_of folder) ≡ true → is_folder_in tree folder ≡ true
folder_there tree folder path has h = rw (begins (prefix_of folder) (keys tree) path (listed_key (keys tree) path (sym (contains_key-keys tree path) ∙ has)) h) (or_true (is_root folder))
