-- What is in a list, and how a test of equality finds it.
use Rattle.std.proofs.Common.{inl, inr, ◌⊎◌, ◌≡◌, ◌≤◌, ◌+◌, ◌||◌, ◌∙◌, zero, suc, Bool, true, false, not, cond, List, [], ◌∷◌, Option, Some, None, filter, length, refl, ap, sym, arith, subst}
use Rattle.std.specs.Bool.{Decides}
use Rattle.std.specs.declared.cmp.Ordering.{Ordering}
use Rattle.std.specs.declared.cmp.Ordering.TheVariants.{Less, Equal, Greater}
use Rattle.std.specs.Cmp.{IsTotalOrder, eq_by_cmp_equiv}
use Rattle.std.specs.Ordering.{eq_by_cmp, is_eq}
use Rattle.std.specs.FinMap.{IsAntisymmetric}
use Rattle.std.specs.List.{Contains, cons_option, filter_map, flat_map, list_all, list_any}
use Rattle.std.proofs.lemmas.Bool.{or_cases, or_left, or_right, cases_Bool, and_parts, and_from, false≢true}
use Rattle.std.proofs.lemmas.List.Elements.{Contains-append_cases, Contains-append_left, Contains-append_right}

module _ {K : Type 0} where
  pub contains_none : (key : K) → Contains [] key → ⊥
  contains_none key (k, inside, is) = omega arith

  pub contains_head : (x : K) (xs : List K) → Contains (x ∷ xs) x
  contains_head x xs = (0, omega arith, refl)

  pub contains_tail : (x y : K) (xs : List K) → Contains xs y → Contains (x ∷ xs) y
  contains_tail x y xs (k, inside, is) = (suc k, omega arith, is)

  pub contains_cases : (x y : K) (xs : List K) → Contains (x ∷ xs) y → (x ≡ y) ⊎ Contains xs y
  contains_cases x y xs (zero, inside, is) = inl is
  contains_cases x y xs (suc k, inside, is) = inr (k, omega arith, is)

  cons_cases : (o : Option K) (ys : List K) (y : K) → Contains (cons_option o ys) y → (o ≡ Some y) ⊎ Contains ys y
  cons_cases None ys y h = inr h
  cons_cases (Some b) ys y h = elim (contains_cases b y ys h) [ inl e ↦ inl (ap Some e) | inr t ↦ inr t ]

  cons_first : (o : Option K) (ys : List K) (y : K) → o ≡ Some y → Contains (cons_option o ys) y
  cons_first o ys y e = subst (λ z. Contains (cons_option z ys) y) (sym e) (contains_head y ys)

  cons_rest : (o : Option K) (ys : List K) (y : K) → Contains ys y → Contains (cons_option o ys) y
  cons_rest None ys y h = h
  cons_rest (Some b) ys y h = contains_tail b y ys h

  -- ---- what a filter keeps

  pub contains_filter : (t : K → Bool) (xs : List K) (y : K) → Contains (filter t xs) y → Contains xs y × (t y ≡ true)
  contains_filter t [] y h = absurd (contains_none y h)
  contains_filter t (x ∷ xs) y h =
      elim (t x) as (λ b. t x ≡ b → Contains (cond b (x ∷ filter t xs) (filter t xs)) y → Contains (x ∷ xs) y × (t y ≡ true)) [
        | true ↦ λ e k. elim (contains_cases x y (filter t xs) k) [
          | inl is ↦ (subst (Contains (x ∷ xs)) is (contains_head x xs), ap t (sym is) ∙ e)
          | inr more ↦ let r = contains_filter t xs y more in (contains_tail x y xs r.0, r.1)
        ]
        | false ↦ λ e k. let r = contains_filter t xs y k in (contains_tail x y xs r.0, r.1)
      ] refl h

  pub filter_contains : (t : K → Bool) (xs : List K) (y : K) → Contains xs y → t y ≡ true → Contains (filter t xs) y
  filter_contains t [] y h k = absurd (contains_none y h)
  filter_contains t (x ∷ xs) y h k =
      elim (t x) as (λ b. t x ≡ b → Contains (cond b (x ∷ filter t xs) (filter t xs)) y) [
        | true ↦ λ e. elim (contains_cases x y xs h) [
          | inl is ↦ subst (Contains (x ∷ filter t xs)) is (contains_head x (filter t xs))
          | inr more ↦ contains_tail x y (filter t xs) (filter_contains t xs y more k)
        ]
        | false ↦ λ e. elim (contains_cases x y xs h) [
          | inl is ↦ absurd (false≢true (sym e ∙ ap t is ∙ k))
          | inr more ↦ filter_contains t xs y more k
        ]
      ] refl

  -- what holds of all holds of one
  pub all_contains : (t : K → Bool) (xs : List K) (y : K) → list_all t xs ≡ true → Contains xs y → t y ≡ true
  all_contains t [] y h k = absurd (contains_none y k)
  all_contains t (x ∷ xs) y h k =
      let a = and_parts (t x) (list_all t xs) h in
      elim (contains_cases x y xs k) [
        | inl is ↦ ap t (sym is) ∙ a.0
        | inr more ↦ all_contains t xs y a.1 more
      ]

  -- ---- how many a filter keeps

  -- more pass a weaker test, and one more where some element passes it alone
  pub more_pass : (p r : K → Bool) → ((q : K) → p q ≡ true → r q ≡ true) → (xs : List K) → length (filter p xs) ≤ length (filter r xs)
  more_pass p r mono [] = omega arith
  more_pass p r mono (x ∷ xs) =
      let k = more_pass p r mono xs in
      let m = mono x in
      grind arith

  pub fewer_pass : (p : K → Bool) (xs : List K) → length (filter p xs) ≤ length xs
  fewer_pass p [] = omega arith
  fewer_pass p (x ∷ xs) = let k = fewer_pass p xs in grind arith

  pub one_more : (p r : K → Bool) → ((q : K) → p q ≡ true → r q ≡ true) → (xs : List K) → (list_all (λ q. not (r q) || p q) xs ≡ true) ⊎ (length (filter p xs) + 1 ≤ length (filter r xs))
  one_more p r mono [] = inl refl
  one_more p r mono (x ∷ xs) =
      let m = more_pass p r mono xs in
      let k = mono x in
      elim (one_more p r mono xs) [
        | inr more ↦ inr (grind arith)
        | inl same ↦ elim (cases_Bool (not (r x) || p x)) [
          | inl t ↦ inl (and_from (not (r x) || p x) (list_all (λ q. not (r q) || p q) xs) t same)
          | inr f ↦ inr (grind arith)
        ]
      ]

-- ---- what is mapped

module _ {A B : Type 0} where
  -- what is in the lists of a list is in the list of one of them
  pub contains_flat_map : (f : A → List B) (xs : List A) (y : B) → Contains (flat_map f xs) y → (x : A) × Contains xs x × Contains (f x) y
  contains_flat_map f [] y h = absurd (contains_none y h)
  contains_flat_map f (x ∷ xs) y h =
      elim (Contains-append_cases (f x) (flat_map f xs) y h) [
        | inl a ↦ (x, contains_head x xs, a)
        | inr b ↦ let r = contains_flat_map f xs y b in (r.0, contains_tail x r.0 xs r.1, r.2)
      ]

  pub flat_map_contains : (f : A → List B) (xs : List A) (x : A) (y : B) → Contains xs x → Contains (f x) y → Contains (flat_map f xs) y
  flat_map_contains f [] x y h k = absurd (contains_none x h)
  flat_map_contains f (z ∷ xs) x y h k =
      elim (contains_cases z x xs h) [
        | inl e ↦ Contains-append_left (f z) (flat_map f xs) y (subst (λ w. Contains (f w) y) (sym e) k)
        | inr t ↦ Contains-append_right (f z) (flat_map f xs) y (flat_map_contains f xs x y t k)
      ]

  -- what a `filter_map` has is made of an element
  pub contains_filter_map : (f : A → Option B) (xs : List A) (y : B) → Contains (filter_map f xs) y → (x : A) × Contains xs x × (f x ≡ Some y)
  contains_filter_map f [] y h = absurd (contains_none y h)
  contains_filter_map f (x ∷ xs) y h =
      elim (cons_cases (f x) (filter_map f xs) y h) [
        | inl e ↦ (x, contains_head x xs, e)
        | inr t ↦ let r = contains_filter_map f xs y t in (r.0, contains_tail x r.0 xs r.1, r.2)
      ]

  pub filter_map_contains : (f : A → Option B) (xs : List A) (x : A) (y : B) → Contains xs x → f x ≡ Some y → Contains (filter_map f xs) y
  filter_map_contains f [] x y h e = absurd (contains_none x h)
  filter_map_contains f (z ∷ xs) x y h e =
      elim (contains_cases z x xs h) [
        | inl is ↦ cons_first (f z) (filter_map f xs) y (ap f is ∙ e)
        | inr more ↦ cons_rest (f z) (filter_map f xs) y (filter_map_contains f xs x y more e)
      ]

-- ---- a test of equality

module _ {K : Type 0} (eq : K → K → Bool) (decides : (a b : K) → Decides (eq a b) (a ≡ b)) where
  -- what the test finds is there
  pub any_contains : (xs : List K) (y : K) → list_any (eq y) xs ≡ true → Contains xs y
  any_contains [] y h = absurd (false≢true h)
  any_contains (x ∷ xs) y h =
      elim (or_cases (eq y x) (list_any (eq y) xs) h) [
        | inl e ↦ subst (Contains (x ∷ xs)) (sym ((decides y x).0 e)) (contains_head x xs)
        | inr t ↦ contains_tail x y xs (any_contains xs y t)
      ]

  -- and what is there the test finds
  pub contains_any : (xs : List K) (y : K) → Contains xs y → list_any (eq y) xs ≡ true
  contains_any [] y h = absurd (contains_none y h)
  contains_any (x ∷ xs) y h =
      elim (contains_cases x y xs h) [
        | inl is ↦ or_left (eq y x) (list_any (eq y) xs) ((decides y x).1 (sym is))
        | inr more ↦ or_right (eq y x) (list_any (eq y) xs) (contains_any xs y more)
      ]

-- ---- a total order

tied : (c : Ordering) → is_eq c ≡ true → c ≡ Equal
tied Less h = absurd (false≢true h)
tied Equal h = refl
tied Greater h = absurd (false≢true h)

module _ {K : Type 0} {R : K → K → Ordering} (o : IsTotalOrder R) (anti : IsAntisymmetric R) where
  -- keys that tie are one
  pub tie_decides : (a b : K) → Decides (eq_by_cmp R a b) (a ≡ b)
  tie_decides a b = (λ h. anti a b (tied (R a b) h), λ h. subst (λ k. eq_by_cmp R a k ≡ true) h ((eq_by_cmp_equiv o).refl a))

  pub same_or_apart : (a b : K) → (a ≡ b) ⊎ (a ≡ b → ⊥)
  same_or_apart a b = elim (cases_Bool (eq_by_cmp R a b)) [
    | inl e ↦ inl ((tie_decides a b).0 e)
    | inr e ↦ inr (λ h. false≢true (sym e ∙ (tie_decides a b).1 h))
  ]
