-- Keys that have texts.
use Rattle.std.specs.Prelude.{◌≡◌, ℕ, List, [], ◌∷◌, map, refl}

-- the entries, with the text of each key in its place
abbrev pub with_texts : {K X : Type 0} → (K → List ℕ) → List (K × X) → List (List ℕ × X)
with_texts text [] = []
with_texts text (e ∷ es) = (text e.0, e.1) ∷ with_texts text es

-- a key that is a text is its own text
pub same_keys : (ks : List (List ℕ)) → ks ≡ map (λ k. k) ks
same_keys [] = refl
same_keys (k ∷ ks) = λ i. k ∷ same_keys ks i

-- so its entry stays
pub same_entries : {X : Type 0} (es : List (List ℕ × X)) → es ≡ with_texts (λ k. k) es
same_entries [] = refl
same_entries (e ∷ es) = λ i. e ∷ same_entries es i

-- `TextKey.texts` of keys that are texts
abbrev pub own_texts : (ks : List (List ℕ)) → (ts : List (List ℕ)) × (ts ≡ map (λ k. k) ks)
own_texts ks = (ks, same_keys ks)

-- `TextKey.entries` of keys that are texts
abbrev pub own_entries : (X : Type 0) (es : List (List ℕ × X)) → (ts : List (List ℕ × X)) × (ts ≡ with_texts (λ k. k) es)
own_entries X es = (es, same_entries es)
