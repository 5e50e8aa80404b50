-- Texts that are held one after another.
use Rattle.std.proofs.Common.{◌≡◌, ◌∙◌, ℕ, Bool, true, false, cond, List, [], ◌∷◌, map, Option, Some, None, refl, ap, sym, subst}
use Rattle.std.specs.List.{AllByRecursion}
use Rattle.std.specs.List.Sorted.{IsStrictlySortedBy}
use Rattle.std.specs.Option.{option_or}
use Rattle.std.specs.Ordering.{nat_cmp, eq_by_cmp, is_eq}
use Rattle.std.specs.Cmp.{nat_cmp_total, unsigned_tied}
use Rattle.std.specs.FinMap.{empty, entries, find, get, get-empty, get-from_entries, get-insert, insert, nat_cmp-IsAntisymmetric, same_map}
use Rattle.std.specs.declared.cmp.Ordering.TheVariants.{Less}
use Rattle.std.proofs.lemmas.Map.Keys.{sorted_head, sorted_tail}
use Rattle.mt_containers.proofs.Tables.{keys_sorted}
use Rattle.mt_revision.specs.Texts.{Modules, Texts, text_in, texts_of}
use Rattle.mt_revision.specs.declared.modules.Module.{Module}
use Rattle.mt_revision.proofs.Sets.{same_number}

-- modules with their texts
abbrev pub texts_in : Bool → List (ℕ × Module) → List (ℕ × List ℕ)
texts_in dev es = map (λ e. (e.0, text_in dev e.0 e.1)) es

or_none : (o e : Option (List ℕ)) → e ≡ None → option_or o e ≡ o
or_none None e h = h
or_none (Some t) e h = refl

-- at first all is left
pub held_start : (dev : Bool) (modules : Modules) (it : List (ℕ × Module)) (T : Texts) (n : ℕ) → it ≡ entries modules → T ≡ empty → option_or (find nat_cmp n (texts_in dev it)) (get T n) ≡ get (texts_of dev modules) n
held_start dev modules it T n e none =
    or_none (find nat_cmp n (texts_in dev it)) (get T n) (ap (λ z. get z n) none ∙ get-empty {X = List ℕ} nat_cmp n)
    ∙ ap (λ es. find nat_cmp n (texts_in dev es)) e ∙ sym (get-from_entries nat_cmp_total (texts_in dev (entries modules)) n)

pub sorted_start : (modules : Modules) (it : List (ℕ × Module)) → it ≡ entries modules → IsStrictlySortedBy nat_cmp (map (λ e. e.0) it)
sorted_start modules it e = subst (λ es. IsStrictlySortedBy nat_cmp (map (λ x. x.0) es)) (sym e) (keys_sorted nat_cmp modules)

pub sorted_next : (it rest : List (ℕ × Module)) (k : ℕ) (m : Module) → it ≡ (k, m) ∷ rest → IsStrictlySortedBy nat_cmp (map (λ e. e.0) it) → IsStrictlySortedBy nat_cmp (map (λ e. e.0) rest)
sorted_next it rest k m e h = sorted_tail nat_cmp k (map (λ x. x.0) rest) (subst (λ es. IsStrictlySortedBy nat_cmp (map (λ x. x.0) es)) e h)

not_left : (dev : Bool) (k : ℕ) (es : List (ℕ × Module)) → AllByRecursion (λ y. nat_cmp k y ≡ Less) (map (λ e. e.0) es) → find nat_cmp k (texts_in dev es) ≡ None
not_left dev k [] h = refl
not_left dev k (e ∷ es) h = ap (λ o. cond (is_eq o) (Some (text_in dev e.0 e.1)) (find nat_cmp k (texts_in dev es))) h.0 ∙ not_left dev k es h.1

step_by : (k n : ℕ) (t u : List ℕ) (left held : Option (List ℕ)) (b : Bool) → (b ≡ true → left ≡ None) → t ≡ u → option_or left (cond b (Some t) held) ≡ option_or (cond b (Some u) left) held
step_by k n t u left held true h e = ap (λ o. option_or o (Some t)) (h refl) ∙ ap Some e
step_by k n t u left held false h e = refl

-- one more text is held
pub held_step :
    (dev : Bool) (it rest : List (ℕ × Module)) (k : ℕ) (m : Module) (T U : Texts) (t : List ℕ) (n : ℕ) → it ≡ (k, m) ∷ rest → IsStrictlySortedBy nat_cmp (map (λ e. e.0) it) → t ≡ text_in dev k m → U ≡ insert T k t
    → option_or (find nat_cmp n (texts_in dev rest)) (get U n) ≡ option_or (find nat_cmp n (texts_in dev it)) (get T n)
held_step dev it rest k m T U t n e h same new =
    let sorted = sorted_head nat_cmp k (map (λ x. x.0) rest) (subst (λ es. IsStrictlySortedBy nat_cmp (map (λ x. x.0) es)) e h) in
    ap (λ z. option_or (find nat_cmp n (texts_in dev rest)) (get z n)) new
    ∙ ap (λ o. option_or (find nat_cmp n (texts_in dev rest)) o) (get-insert nat_cmp_total T k t n)
    ∙ step_by k n t (text_in dev k m) (find nat_cmp n (texts_in dev rest)) (get T n) (eq_by_cmp nat_cmp n k)
    (λ w. ap (λ z. find nat_cmp z (texts_in dev rest)) (same_number n k (sym (unsigned_tied n k) ∙ w)) ∙ not_left dev k rest sorted) same
    ∙ ap (λ es. option_or (find nat_cmp n (texts_in dev es)) (get T n)) (sym e)

-- at the end all is held
pub held_whole : (dev : Bool) (modules : Modules) (it : List (ℕ × Module)) (T : Texts) → it ≡ [] → ((n : ℕ) → option_or (find nat_cmp n (texts_in dev it)) (get T n) ≡ get (texts_of dev modules) n) → T ≡ texts_of dev modules
held_whole dev modules it T e h = same_map nat_cmp_total nat_cmp-IsAntisymmetric T (texts_of dev modules) (λ n. ap (λ es. option_or (find nat_cmp n (texts_in dev es)) (get T n)) (sym e) ∙ h n)
