-- The delta between two maps of held texts leads from the one to the other.
use Rattle.std.proofs.Common.{◌≡◌, ◌∙◌, ◌&&◌, ◌||◌, ◌++◌, ℕ, Bool, true, false, not, cond, nat_eq, List, [], ◌∷◌, filter, Option, Some, None, is_some, refl, ap, sym}
use Rattle.std.specs.List.{list_all, list_any}
use Rattle.std.specs.Option.{option_or}
use Rattle.std.specs.Str.{bytes_eq}
use Rattle.std.specs.Ordering.{nat_cmp, eq_by_cmp}
use Rattle.std.specs.Cmp.{nat_cmp_total, unsigned_tied}
use Rattle.std.specs.FinMap.{contains_key, entries, find, get, get-entries, get-from_entries, keys, nat_cmp-IsAntisymmetric, same_map}
use Rattle.std.proofs.lemmas.Bool.{and_parts}
use Rattle.std.proofs.lemmas.Cmp.{nat_eq_equiv}
use Rattle.mt_files.proofs.PathLists.{same_path}
use Rattle.mt_revision.specs.Texts.{Texts, differs}
use Rattle.mt_revision.specs.Held.{applied, delta, fits}
use Rattle.mt_revision.proofs.Sets.{has_number, has_passing, same_number}

-- ---- what is found among some entries

none_either : (b : Bool) (o : Option (List ℕ)) → o ≡ None → cond b o None ≡ o
none_either true o h = refl
none_either false o h = sym h

find_key :
    (p : ℕ → Bool) (n : ℕ) (e : ℕ × List ℕ) (es : List (ℕ × List ℕ)) (keep here : Bool) → p e.0 ≡ keep → eq_by_cmp nat_cmp n e.0 ≡ here
    → find nat_cmp n (filter (λ x. p x.0) es) ≡ cond (p n) (find nat_cmp n es) None
    → find nat_cmp n (cond keep (e ∷ filter (λ x. p x.0) es) (filter (λ x. p x.0) es)) ≡ cond (p n) (cond here (Some e.1) (find nat_cmp n es)) None
find_key p n e es true true h k i =
    let is = same_number n e.0 (sym (unsigned_tied n e.0) ∙ k) in
    ap (λ b. cond b (Some e.1) (find nat_cmp n (filter (λ x. p x.0) es))) k ∙ sym (ap (λ b. cond b (Some e.1) None) (ap p is ∙ h))
find_key p n e es true false h k i = ap (λ b. cond b (Some e.1) (find nat_cmp n (filter (λ x. p x.0) es))) k ∙ i
find_key p n e es false true h k i =
    let is = same_number n e.0 (sym (unsigned_tied n e.0) ∙ k) in
    i ∙ ap (λ b. cond b (find nat_cmp n es) None) (ap p is ∙ h) ∙ sym (ap (λ b. cond b (Some e.1) None) (ap p is ∙ h))
find_key p n e es false false h k i = i

-- a test of the keys keeps what is under a number or not
find_keys : (p : ℕ → Bool) (n : ℕ) (es : List (ℕ × List ℕ)) → find nat_cmp n (filter (λ x. p x.0) es) ≡ cond (p n) (find nat_cmp n es) None
find_keys p n [] = sym (none_either (p n) None refl)
find_keys p n (e ∷ es) = find_key p n e es (p e.0) (eq_by_cmp nat_cmp n e.0) refl refl (find_keys p n es)

or_by : (b : Bool) (t : List ℕ) (x y z : Option (List ℕ)) → z ≡ option_or x y → cond b (Some t) z ≡ option_or (cond b (Some t) x) y
or_by true t x y z h = refl
or_by false t x y z h = h

find_both : (n : ℕ) (xs ys : List (ℕ × List ℕ)) → find nat_cmp n (xs ++ ys) ≡ option_or (find nat_cmp n xs) (find nat_cmp n ys)
find_both n [] ys = refl
find_both n (e ∷ es) ys = or_by (eq_by_cmp nat_cmp n e.0) e.1 (find nat_cmp n es) (find nat_cmp n ys) (find nat_cmp n (es ++ ys)) (find_both n es ys)

-- ---- the delta leads on

other_or_same : (t u : List ℕ) (same : Bool) → bytes_eq t u ≡ same → option_or (cond (not same) (Some u) None) (Some t) ≡ Some u
other_or_same t u true e = ap Some (same_path t u e)
other_or_same t u false e = refl

-- under each number
led_to : (x y : Option (List ℕ)) → option_or (cond (not (is_some x)) y None) (option_or (cond (is_some x && differs x y) y None) (cond (not (is_some x && not (is_some y))) x None)) ≡ y
led_to None None = refl
led_to None (Some u) = refl
led_to (Some t) None = refl
led_to (Some t) (Some u) = other_or_same t u (bytes_eq t u) refl

abbrev kept_entries : Texts → Texts → List (ℕ × List ℕ)
kept_entries a b = filter (λ e. not (list_any (nat_eq e.0) (delta a b).deleted)) (entries a)

leads_at : (a b : Texts) (n : ℕ) → get (applied a (delta a b)) n ≡ get b n
leads_at a b n =
    let d = delta a b in
    let gone : list_any (nat_eq n) d.deleted ≡ (contains_key a n && not (contains_key b n)) = has_passing (λ k. not (contains_key b k)) (keys a) n ∙ ap (λ has. has && not (contains_key b n)) (sym (has_number a n)) in
    let added : find nat_cmp n d.added ≡ cond (not (contains_key a n)) (get b n) None = find_keys (λ k. not (contains_key a k)) n (entries b) ∙ ap (λ o. cond (not (contains_key a n)) o None) (sym (get-entries b n)) in
    let modified : find nat_cmp n d.modified ≡ cond (contains_key a n && differs (get a n) (get b n)) (get b n) None =
    find_keys (λ k. contains_key a k && differs (get a k) (get b k)) n (entries b) ∙ ap (λ o. cond (contains_key a n && differs (get a n) (get b n)) o None) (sym (get-entries b n)) in
    let kept : find nat_cmp n (kept_entries a b) ≡ cond (not (contains_key a n && not (contains_key b n))) (get a n) None =
    find_keys (λ k. not (list_any (nat_eq k) d.deleted)) n (entries a) ∙ ap (λ o. cond (not (list_any (nat_eq n) d.deleted)) o None) (sym (get-entries a n)) ∙ ap (λ has. cond (not has) (get a n) None) gone in
    get-from_entries nat_cmp_total (d.added ++ (d.modified ++ kept_entries a b)) n
    ∙ find_both n d.added (d.modified ++ kept_entries a b)
    ∙ ap (option_or (find nat_cmp n d.added)) (find_both n d.modified (kept_entries a b))
    ∙ ap (λ o. option_or o (option_or (find nat_cmp n d.modified) (find nat_cmp n (kept_entries a b)))) added
    ∙ ap (λ o. option_or (cond (not (contains_key a n)) (get b n) None) (option_or o (find nat_cmp n (kept_entries a b)))) modified
    ∙ ap (λ o. option_or (cond (not (contains_key a n)) (get b n) None) (option_or (cond (contains_key a n && differs (get a n) (get b n)) (get b n) None) o)) kept
    ∙ led_to (get a n) (get b n)

pub delta_leads : (a b : Texts) → applied a (delta a b) ≡ b
delta_leads a b = same_map nat_cmp_total nat_cmp-IsAntisymmetric (applied a (delta a b)) b (leads_at a b)

-- ---- the delta fits

kept_pass : {X : Type 0} (p q : X → Bool) (x : X) (xs : List X) (keep : Bool) → q x ≡ keep → (q x ≡ true → p x ≡ true) → list_all p (filter q xs) ≡ true → list_all p (cond keep (x ∷ filter q xs) (filter q xs)) ≡ true
kept_pass p q x xs true e h i = ap (λ b. b && list_all p (filter q xs)) (h e) ∙ i
kept_pass p q x xs false e h i = i

-- what one test keeps passes a weaker one
all_pass : {X : Type 0} (p q : X → Bool) → ((x : X) → q x ≡ true → p x ≡ true) → (xs : List X) → list_all p (filter q xs) ≡ true
all_pass p q h [] = refl
all_pass p q h (x ∷ xs) = kept_pass p q x xs (q x) refl (h x) (all_pass p q h xs)

or_true : (b : Bool) → (b || true) ≡ true
or_true true = refl
or_true false = refl

all_there : (p q : ℕ → Bool) (ks : List ℕ) → ((k : ℕ) → list_any (nat_eq k) ks ≡ true → p k ≡ true) → list_all p (filter q ks) ≡ true
all_there p q [] h = refl
all_there p q (k ∷ ks) h =
    kept_pass p q k ks (q k) refl (λ e. h k (ap (λ b. b || list_any (nat_eq k) ks) (nat_eq_equiv.refl k)))
    (all_there p q ks (λ n e. h n (ap (λ b. nat_eq n k || b) e ∙ or_true (nat_eq n k))))

all_hold : (a b c : Bool) → a ≡ true → b ≡ true → c ≡ true → (a && (b && c)) ≡ true
all_hold a b c h k l = ap (λ x. x && (b && c)) h ∙ ap (λ x. x && c) k ∙ l

pub delta_fits : (a b : Texts) → fits a (delta a b) ≡ true
delta_fits a b =
    let d = delta a b in
    all_hold (list_all (λ (e : ℕ × List ℕ). not (contains_key a e.0)) d.added) (list_all (λ (e : ℕ × List ℕ). contains_key a e.0) d.modified) (list_all (contains_key a) d.deleted)
    (all_pass (λ (e : ℕ × List ℕ). not (contains_key a e.0)) (λ (e : ℕ × List ℕ). not (contains_key a e.0)) (λ e h. h) (entries b))
    (all_pass (λ (e : ℕ × List ℕ). contains_key a e.0) (λ (e : ℕ × List ℕ). contains_key a e.0 && differs (get a e.0) (get b e.0)) (λ e h. (and_parts (contains_key a e.0) (differs (get a e.0) (get b e.0)) h).0) (entries b))
    (all_there (contains_key a) (λ k. not (contains_key b k)) (keys a) (λ k h. has_number a k ∙ h))
