-- The faults of an output's names, one by one.
use Rattle.std.proofs.Common.{◌≡◌, ◌≤◌, ◌<◌, ◌+◌, ◌∙◌, ◌&&◌, ℕ, zero, suc, Bool, true, false, List, [], ◌∷◌, ◌++◌, map, length, drop, Option, Some, None, refl, ap, sym, arith, append_assoc, append-nil, cond, slice_index}
use Rattle.std.specs.List.{enumerate_from, flat_map, list_all, slice_get, zip}
use Rattle.std.specs.Option.{option_map_or}
use Rattle.std.proofs.lemmas.Bool.{and_parts}
use Rattle.std.proofs.lemmas.List.{drop_all}
use Rattle.std.proofs.lemmas.List.FromFn.{length-enumerate_from}
use Rattle.mt_tokens.specs.Deps.{Dependency}
use Rattle.mt_files.specs.Edges.{fault_of}
use Rattle.mt_files.specs.declared.build_fault.BuildFault.{BuildFault}
use Rattle.mt_files.specs.declared.target.Link.{Link}
use Rattle.mt_files.specs.declared.target.Target.{Target}
use Rattle.mt_files.specs.declared.target.Target.TheVariants as target
use Rattle.mt_transform.specs.Outputs.{places_of}
use Rattle.mt_transform.specs.declared.output.Name.{Name}
use Rattle.mt_transform.specs.declared.output.Output.{Output}
use Rattle.mt_graph.specs.Judged.{link_fault, link_faults, placed}
use Rattle.mt_graph.specs.Members.{is_file}

-- ---- pairs by their number

no_first : {A B : Type 0} (n i : ℕ) (xs : List A) (ys : List B) → slice_get xs i ≡ None → slice_get (enumerate_from n (zip xs ys)) i ≡ None
no_first n i [] ys h = refl
no_first n i (x ∷ xs) [] h = refl
no_first n zero (x ∷ xs) (y ∷ ys) h = cc
no_first n (suc i) (x ∷ xs) (y ∷ ys) h = no_first (n + 1) i xs ys h

no_second : {A B : Type 0} (n i : ℕ) (xs : List A) (ys : List B) → slice_get ys i ≡ None → slice_get (enumerate_from n (zip xs ys)) i ≡ None
no_second n i [] ys h = refl
no_second n i (x ∷ xs) [] h = refl
no_second n zero (x ∷ xs) (y ∷ ys) h = cc
no_second n (suc i) (x ∷ xs) (y ∷ ys) h = no_second (n + 1) i xs ys h

both : {A B : Type 0} (n i : ℕ) (xs : List A) (ys : List B) (x : A) (y : B) → slice_get xs i ≡ Some x → slice_get ys i ≡ Some y → slice_get (enumerate_from n (zip xs ys)) i ≡ Some (n + i, (x, y))
both n i [] ys x y h k = cc
both n i (a ∷ xs) [] x y h k = cc
both n zero (a ∷ xs) (b ∷ ys) x y h k =
    let e : a ≡ x = cc in
    let f : b ≡ y = cc in
    let g : n ≡ n + 0 = omega arith in λ t. Some (g t, (e t, f t))
both n (suc i) (a ∷ xs) (b ∷ ys) x y h k =
    let g : n + 1 + i ≡ n + suc i = omega arith in
    both (n + 1) i xs ys x y h k ∙ ap (λ m. Some (m, (x, y))) g

-- ---- one name

-- the fault of the name with a number
abbrev pub fault_at : List ℕ → Output → List Link → ℕ → List BuildFault
fault_at path output links i = option_map_or (link_fault path output) (slice_get (enumerate_from 0 (zip output.names links)) i) []

pub fault_here :
    (path : List ℕ) (output : Output) (links : List Link) (i : ℕ) (name : Name) (link : Link) → slice_get output.names i ≡ Some name → slice_get links i ≡ Some link
    → fault_at path output links i ≡ fault_of path (placed output i name) link.target
fault_here path output links i name link h k =
    let g : 0 + i ≡ i = omega arith in
    ap (λ o. option_map_or (link_fault path output) o []) (both 0 i output.names links name link h k)
    ∙ ap (λ n. fault_of path (placed output n name) link.target) g

pub no_name : (path : List ℕ) (output : Output) (links : List Link) (i : ℕ) (faults : List BuildFault) → slice_get output.names i ≡ None → faults ≡ faults ++ fault_at path output links i
no_name path output links i faults h = sym (append-nil faults) ∙ ap (λ o. faults ++ option_map_or (link_fault path output) o []) (sym (no_first 0 i output.names links h))

pub no_link : (path : List ℕ) (output : Output) (links : List Link) (i : ℕ) (faults : List BuildFault) → slice_get links i ≡ None → faults ≡ faults ++ fault_at path output links i
no_link path output links i faults h = sym (append-nil faults) ∙ ap (λ o. faults ++ option_map_or (link_fault path output) o []) (sym (no_second 0 i output.names links h))

-- ---- all names

-- where each link leads to a source there is no fault
no_fault_by : (path : List ℕ) (output : Output) (n : ℕ) (names : List Name) (links : List Link) → list_all is_file links ≡ true → flat_map (link_fault path output) (enumerate_from n (zip names links)) ≡ []
no_fault_by path output n [] links h = refl
no_fault_by path output n (name ∷ names) [] h = refl
no_fault_by path output n (name ∷ names) (link ∷ links) h =
    let a = and_parts (is_file link) (list_all is_file links) h in
    ap (λ fs. link_fault path output (n, (name, link)) ++ fs) (no_fault_by path output (n + 1) names links a.1) ∙ none (placed output n name) link.target a.0
  where
    none : (d : Dependency) (t : Target) → is_file (record { target = t }) ≡ true → fault_of path d t ++ [] ≡ []
    none d (target.File p) e = refl
    none d target.None e = cc
    none d (target.BadPackage p) e = cc

pub no_fault : (path : List ℕ) (output : Output) (links : List Link) → list_all is_file links ≡ true → [] ≡ link_faults path output links
no_fault path output links h = sym (no_fault_by path output 0 output.names links h)

-- ---- what is left from a number on

at : {A B : Type 0} (f : A → List B) (xs : List A) (i : ℕ) → flat_map f (drop i xs) ≡ option_map_or f (slice_get xs i) [] ++ flat_map f (drop (i + 1) xs)
at f [] i = ap (flat_map f) (drop_nothing i) ∙ sym (ap (flat_map f) (drop_nothing (i + 1)))
  where
    drop_nothing : {A : Type 0} (i : ℕ) → drop {A = A} i [] ≡ []
    drop_nothing i = drop_all i [] (omega arith)
at f (x ∷ xs) zero = refl
at f (x ∷ xs) (suc i) =
    let e : suc i + 1 ≡ suc (i + 1) = omega arith in
    at f xs i ∙ ap (λ n. option_map_or f (slice_get xs i) [] ++ flat_map f (drop n (x ∷ xs))) (sym e)

-- the faults from a number on
abbrev pub faults_from : List ℕ → Output → List Link → ℕ → List BuildFault
faults_from path output links i = flat_map (link_fault path output) (drop i (enumerate_from 0 (zip output.names links)))

pub follow_fault :
    (path : List ℕ) (output : Output) (links : List Link) (i : ℕ) (faults more all : List BuildFault) → more ≡ faults ++ fault_at path output links i → faults ++ faults_from path output links i ≡ all
    → more ++ faults_from path output links (i + 1) ≡ all
follow_fault path output links i faults more all h k =
    let pairs = enumerate_from 0 (zip output.names links) in
    ap (λ fs. fs ++ faults_from path output links (i + 1)) h
    ∙ append_assoc faults (fault_at path output links i) (faults_from path output links (i + 1))
    ∙ ap (λ fs. faults ++ fs) (sym (at (link_fault path output) pairs i))
    ∙ k

zip_short : {A B : Type 0} (xs : List A) (ys : List B) → length (zip xs ys) ≤ length ys
zip_short [] ys = omega arith
zip_short (x ∷ xs) [] = omega arith
zip_short (x ∷ xs) (y ∷ ys) = let h = zip_short xs ys in omega arith

pub followed_faults :
    (path : List ℕ) (output : Output) (links : List Link) (i : ℕ) (faults : List BuildFault) → length links ≤ i → faults ++ faults_from path output links i ≡ link_faults path output links
    → faults ≡ link_faults path output links
followed_faults path output links i faults n h =
    let pairs = enumerate_from 0 (zip output.names links) in
    let few : length pairs ≤ i = omega (arith, length-enumerate_from 0 (zip output.names links), zip_short output.names links) in
    sym (append-nil faults) ∙ ap (λ ps. faults ++ flat_map (link_fault path output) ps) (sym (drop_all i pairs few)) ∙ h

-- what was found for the name with a number is its fault
pub fault_found :
    (path : List ℕ) (output : Output) (links : List Link) (i place : ℕ) (name : Name) (link : Link) (found : List BuildFault)
    → slice_get output.names i ≡ Some name → slice_get links i ≡ Some link → place ≡ slice_index (places_of output) i → found ≡ fault_of path (record { name = name.text; kind = name.kind; place = place }) link.target
    → found ≡ fault_at path output links i
fault_found path output links i place name link found h k p e =
    e ∙ ap (λ n. fault_of path (record { name = name.text; kind = name.kind; place = n }) link.target) p ∙ sym (fault_here path output links i name link h k)
