-- What comes after a prefix, and the child that its first part names.
use Rattle.std.proofs.Common.{◌⊎◌, inl, inr, ◌≡◌, ◌<◌, ◌∙◌, ◌==◌, arith, ℕ, Bool, true, false, cond, List, [], ◌∷◌, ◌++◌, length, take, drop, Some, None, refl, sym, ap, nat_lt, length-drop}
use Rattle.std.specs.Bool.{nat_eq}
use Rattle.std.specs.Ordering.{nat_cmp, ordering_then}
use Rattle.std.specs.declared.cmp.Ordering.TheVariants.{Less, Equal, Greater}
use Rattle.std.specs.Cmp.Lexicographic.{slice_cmp}
use Rattle.std.specs.FinMap.{nat_cmp-IsAntisymmetric}
use Rattle.std.specs.List.{starts_with, before_first}
use Rattle.std.specs.Str.{bytes_eq}
use Rattle.std.proofs.lemmas.Bool.{and_parts}
use Rattle.std.proofs.lemmas.Grind.{common_steps}
use Rattle.std.proofs.lemmas.List.{take-append-drop}
use Rattle.std.proofs.lemmas.Slice.Eq.{bytes_eq-Decides}
use Rattle.mt_io.specs.declared.folder.Named.{Named}
use Rattle.mt_io.specs.declared.folder.NamedKind.{NamedKind}
use Rattle.mt_io.specs.declared.folder.NamedKind.TheVariants.{File, Folder, Other}
use Rattle.mt_io.specs.Files.{first_of, is_below, kind_of, rest_of}

-- equal texts from their test, and back
pub same_bytes : (x y : List ℕ) → bytes_eq x y ≡ true → x ≡ y
same_bytes x y e = (bytes_eq-Decides x y).0 e

pub bytes_same : (x : List ℕ) → bytes_eq x x ≡ true
bytes_same x = (bytes_eq-Decides x x).1 refl

rest_by : (prefix path rest : List ℕ) (b : Bool) → is_below prefix path ≡ b → cond b (Some (drop (length prefix) path)) None ≡ Some rest → (path ≡ prefix ++ rest) × (0 < length rest)
rest_by prefix path rest false e h = cc
rest_by prefix path rest true e h =
    let p = and_parts (starts_with nat_eq path prefix) (nat_lt (length prefix) (length path)) e in
    let front : prefix ≡ take (length prefix) path = same_bytes prefix (take (length prefix) path) p.0 in
    let back : drop (length prefix) path ≡ rest = cc in
    let longer : length prefix < length path = grind arith in
    (sym (take-append-drop (length prefix) path) ∙ ap (λ x. x ++ drop (length prefix) path) (sym front) ∙ ap (λ x. prefix ++ x) back, omega (arith, length-drop (length prefix) path, ap length back))

-- a path below a prefix is the prefix and the rest, of which there is some
pub rest_parts : (prefix path rest : List ℕ) → rest_of prefix path ≡ Some rest → (path ≡ prefix ++ rest) × (0 < length rest)
rest_parts prefix path rest h = rest_by prefix path rest (is_below prefix path) refl h

pub take_front : (x y : List ℕ) → take (length x) (x ++ y) ≡ x
take_front x y = grind (arith, common_steps)

drop_front : (x y : List ℕ) → drop (length x) (x ++ y) ≡ y
drop_front x y = grind (arith, common_steps)

pub below_front : (prefix rest : List ℕ) → 0 < length rest → is_below prefix (prefix ++ rest) ≡ true
below_front prefix rest some =
    rw (take_front prefix rest, bytes_same prefix) (grind (arith, common_steps))

-- a prefix with something after it has that rest
pub rest_made : (prefix rest : List ℕ) → 0 < length rest → rest_of prefix (prefix ++ rest) ≡ Some rest
rest_made prefix rest some = rw (below_front prefix rest some) (ap Some (drop_front prefix rest))

same_cmp : (a : ℕ) → nat_cmp a a ≡ Equal
same_cmp a = grind arith

-- a common front decides nothing of the order
pub cmp_front : (x r s : List ℕ) → slice_cmp nat_cmp (x ++ r) (x ++ s) ≡ slice_cmp nat_cmp r s
cmp_front [] r s = refl
cmp_front (a ∷ x) r s = rw (same_cmp a) (cmp_front x r s)

-- a text is not before itself
pub cmp_same : (x : List ℕ) → slice_cmp nat_cmp x x ≡ Equal
cmp_same [] = refl
cmp_same (a ∷ x) = rw (same_cmp a) (cmp_same x)

-- ---- the first part

last_byte : NamedKind → List ℕ
last_byte File = []
last_byte Folder = 47 ∷ []
last_byte Other = []

-- a child's name, with `/` after it where it is a folder
pub key : Named → List ℕ
key child = child.name ++ last_byte child.kind

yes_name : (b : ℕ) (ys : List ℕ) → (b == 47) ≡ true → before_first (λ x. x == 47) (b ∷ ys) ≡ []
yes_name b ys e = rw e refl

yes_kind : (b : ℕ) (ys : List ℕ) → (b == 47) ≡ true → kind_of (b ∷ ys) ≡ Folder
yes_kind b ys e = rw e (grind (arith, common_steps))

pub first_yes : (b : ℕ) (ys : List ℕ) → (b == 47) ≡ true → first_of (b ∷ ys) ≡ record { name = []; kind = Folder }
first_yes b ys e = let n = yes_name b ys e in let k = yes_kind b ys e in cc

no_name : (b : ℕ) (ys : List ℕ) → (b == 47) ≡ false → before_first (λ x. x == 47) (b ∷ ys) ≡ b ∷ before_first (λ x. x == 47) ys
no_name b ys e = rw e (grind (arith, common_steps))

no_kind : (b : ℕ) (ys : List ℕ) → (b == 47) ≡ false → kind_of (b ∷ ys) ≡ kind_of ys
no_kind b ys e = rw e (grind (arith, common_steps))

pub first_no : (b : ℕ) (ys : List ℕ) → (b == 47) ≡ false → first_of (b ∷ ys) ≡ record { name = b ∷ (first_of ys).name; kind = (first_of ys).kind }
first_no b ys e = let n = no_name b ys e in let k = no_kind b ys e in cc

key_by : (b : ℕ) (ys : List ℕ) (t : Bool) → (b == 47) ≡ t → key (first_of (b ∷ ys)) ≡ b ∷ cond t [] (key (first_of ys))
unfolding key last_byte
key_by b ys true e = let is : b ≡ 47 = grind arith in ap key (first_yes b ys e) ∙ ap (λ x. x ∷ []) (sym is)
key_by b ys false e = ap key (first_no b ys e)

pub key_cons : (b : ℕ) (ys : List ℕ) → key (first_of (b ∷ ys)) ≡ b ∷ cond (b == 47) [] (key (first_of ys))
key_cons b ys = key_by b ys (b == 47) refl

abbrev pub Before : Named → Named → Type 0
Before one other = slice_cmp nat_cmp (key one) (key other) ≡ Less

-- a child that is not a file without a name has some key
pub key_some : (rest : List ℕ) (child : Named) → 0 < length rest → key child ≡ [] → Before child (first_of rest)
key_some [] child some none = grind arith
key_some (b ∷ ys) child some none = rw (none, key_cons b ys) refl

step_by :
    (a b : ℕ) (xs ys : List ℕ) (t : Bool) → (b == 47) ≡ t → a ≡ b → Before (first_of xs) (first_of ys) ⊎ (first_of xs ≡ first_of ys)
    → Before (first_of (a ∷ xs)) (first_of (b ∷ ys)) ⊎ (first_of (a ∷ xs) ≡ first_of (b ∷ ys))
step_by a b xs ys true e same h = inr (rw same (first_yes b xs e ∙ sym (first_yes b ys e)))
step_by a b xs ys false e same (inl h) = inl (rw (same, key_cons b xs, key_cons b ys, e, same_cmp b) h)
step_by a b xs ys false e same (inr h) = inr (rw same (first_no b xs e ∙ ap (λ (c : Named). record { name = b ∷ c.name; kind = c.kind }) h ∙ sym (first_no b ys e)))

key_none : key (first_of []) ≡ []
unfolding key last_byte
key_none = refl

-- of two rests that ascend, the children ascend or are one
pub step_cmp : (r s : List ℕ) → slice_cmp nat_cmp r s ≡ Less → Before (first_of r) (first_of s) ⊎ (first_of r ≡ first_of s)
step_cmp [] [] h = cc
step_cmp [] (b ∷ ys) h = inl (key_some (b ∷ ys) (first_of []) (omega arith) key_none)
step_cmp (a ∷ xs) [] h = cc
step_cmp (a ∷ xs) (b ∷ ys) h =
    elim (nat_cmp a b) as (λ o. nat_cmp a b ≡ o → ordering_then o (slice_cmp nat_cmp xs ys) ≡ Less → Before (first_of (a ∷ xs)) (first_of (b ∷ ys)) ⊎ (first_of (a ∷ xs) ≡ first_of (b ∷ ys))) [
      | Less ↦ λ p _. inl (rw (key_cons a xs, key_cons b ys, p) refl)
      | Equal ↦ λ p h. step_by a b xs ys (b == 47) refl (nat_cmp-IsAntisymmetric a b p) (step_cmp xs ys h)
      | Greater ↦ λ p h. cc
    ] refl h

-- a file without a name is no child of a folder
pub no_key : key (record { name = []; kind = File }) ≡ []
unfolding key last_byte
no_key = refl

pub not_no_child : (rest : List ℕ) → 0 < length rest → first_of rest ≡ record { name = []; kind = File } → ⊥
not_no_child [] some e = omega arith
not_no_child (b ∷ ys) some e = let k = ap key e in let l = key_cons b ys in let n = no_key in cc
