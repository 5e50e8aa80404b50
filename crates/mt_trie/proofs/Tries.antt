-- What rows stand for, and how it changes with them.
use Rattle.std.proofs.Common.{◌≡◌, ◌∙◌, ℕ, zero, suc, ◌+◌, ◌-◌, ◌*◌, ◌<◌, ◌≤◌, ◌/◌, ◌%◌, Bool, true, false, ◌&&◌, cond, nat_eq, nat_lt, Option, Some, None, is_some, refl, ap, sym, subst, arith}
use Rattle.std.proofs.Math.Nat.{div-div-eq-div-mul}
use Rattle.std.specs.Borrow.{Bor}
use Rattle.std.specs.Option.{option_copied}
use Rattle.std.specs.Ordering.{nat_cmp}
use Rattle.std.specs.Cmp.{nat_cmp_total, unsigned_tied}
use Rattle.std.specs.FinMap.{FinMap, nat_cmp-IsAntisymmetric, empty, get, insert, remove, len, contains_key, same_map, empty_of_len, get-empty, get-insert, get-remove, len-empty, len-insert, len-remove}
use Rattle.std.proofs.lemmas.Bool.Decides.{nat_tests}
use Rattle.mt_trie.specs.Rows.{Row, child, IsChanged}
use Rattle.mt_trie.specs.Tries.{Rows, value_at, with_some, tabulate, map_of}

-- ---- keys and their digits

eq_true : (a b : ℕ) → nat_eq a b ≡ true → a ≡ b
eq_true a b e = grind (arith, nat_tests)

-- two numbers are equal where their parts are
parts_by : (a b : ℕ) (high low both : Bool) → nat_eq (a / 16) (b / 16) ≡ high → nat_eq (a % 16) (b % 16) ≡ low → nat_eq a b ≡ both → both ≡ (high && low)
parts_by a b true true true h l e = refl
parts_by a b true true false h l e = absurd (grind (arith, nat_tests))
parts_by a b true false true h l e = absurd (grind (arith, nat_tests))
parts_by a b true false false h l e = refl
parts_by a b false low true h l e = absurd (grind (arith, nat_tests))
parts_by a b false low false h l e = refl

parts : (a b : ℕ) → nat_eq a b ≡ (nat_eq (a / 16) (b / 16) && nat_eq (a % 16) (b % 16))
parts a b = parts_by a b (nat_eq (a / 16) (b / 16)) (nat_eq (a % 16) (b % 16)) (nat_eq a b) refl refl refl

-- the next digit of two numbers
higher : (a b n m : ℕ) → n * 16 ≡ m → nat_eq (a / n) (b / n) ≡ (nat_eq (a / m) (b / m) && nat_eq (a / n % 16) (b / n % 16))
higher a b n m e = parts (a / n) (b / n) ∙ ap (λ k. nat_eq k (b / n / 16) && nat_eq (a / n % 16) (b / n % 16)) (div-div-eq-div-mul a n 16 ∙ ap (λ k. a / k) e)
    ∙ ap (λ k. nat_eq (a / m) k && nat_eq (a / n % 16) (b / n % 16)) (div-div-eq-div-mul b n 16 ∙ ap (λ k. b / k) e)

and_assoc : (a b c : Bool) → ((a && b) && c) ≡ (a && (b && c))
and_assoc true b c = refl
and_assoc false b c = refl

-- tests, each of which is split in two
joined : (t3 t2 t1 d4 d3 d2 d1 d0 : Bool) → t3 ≡ (d4 && d3) → t2 ≡ (t3 && d2) → t1 ≡ (t2 && d1) → (t1 && d0) ≡ (d4 && (d3 && (d2 && (d1 && d0))))
joined t3 t2 t1 d4 d3 d2 d1 d0 e4 e3 e2 = rw (e2, e3, e4) (and_assoc ((d4 && d3) && d2) d1 d0 ∙ and_assoc (d4 && d3) d2 (d1 && d0) ∙ and_assoc d4 d3 (d2 && (d1 && d0)))

-- the five digits tell keys apart
pub same_digits : (a b : ℕ) → nat_eq a b ≡ (nat_eq (a / 65536) (b / 65536) && (nat_eq (a / 4096 % 16) (b / 4096 % 16) && (nat_eq (a / 256 % 16) (b / 256 % 16) && (nat_eq (a / 16 % 16) (b / 16 % 16) && nat_eq (a % 16) (b % 16)))))
same_digits a b =
    let e1 : nat_eq a b ≡ (nat_eq (a / 16) (b / 16) && nat_eq (a % 16) (b % 16)) = parts a b in
    let e2 : nat_eq (a / 16) (b / 16) ≡ (nat_eq (a / 256) (b / 256) && nat_eq (a / 16 % 16) (b / 16 % 16)) = higher a b 16 256 refl in
    let e3 : nat_eq (a / 256) (b / 256) ≡ (nat_eq (a / 4096) (b / 4096) && nat_eq (a / 256 % 16) (b / 256 % 16)) = higher a b 256 4096 refl in
    let e4 : nat_eq (a / 4096) (b / 4096) ≡ (nat_eq (a / 65536) (b / 65536) && nat_eq (a / 4096 % 16) (b / 4096 % 16)) = higher a b 4096 65536 refl in
    e1 ∙ joined _ _ _ _ _ _ _ _ e4 e3 e2

lt_is : (q n : ℕ) (b : Bool) → q < n → nat_lt q n ≡ b → b ≡ true
lt_is q n true h e = refl
lt_is q n false h e = absurd (grind (arith, nat_tests))

not_lt_is : (q n : ℕ) (b : Bool) → n ≤ q → nat_lt q n ≡ b → b ≡ false
not_lt_is q n true h e = absurd (grind (arith, nat_tests))
not_lt_is q n false h e = refl

lt_zero : (q : ℕ) (b : Bool) → nat_lt q 0 ≡ b → b ≡ false
lt_zero q true e = absurd (grind (arith, nat_tests))
lt_zero q false e = refl

len_with_by : (b : Bool) (a : ℕ) → cond b a (a + 1) ≤ a + 1
len_with_by true a = omega arith
len_with_by false a = omega arith

less_by : (b : Bool) (n : ℕ) → b ≡ true → cond b (n - 1) n ≡ n - 1
less_by true n e = refl
less_by false n e = absurd (cc)

-- ---- a change below a row

module _ {T V : Type 0} where
  changed_by : (look : Option T → Option V) (before : Option (Row T)) (digit at : ℕ) (new : Option T) (here rest : Bool) (v : Option V) → nat_eq at digit ≡ here → look new ≡ cond rest v (look (child before digit))
      → look (cond here new (child before at)) ≡ cond (here && rest) v (look (child before at))
  changed_by look before digit at new true rest v e h = h ∙ ap (λ k. cond rest v (look (child before k))) (sym (eq_true at digit e))
  changed_by look before digit at new false rest v e h = refl

  -- what is found through a row, where it is known what is found through the new child
  pub changed_below : (look : Option T → Option V) (before after : Option (Row T)) (digit : ℕ) (below new : Option T) (rest : Bool) (v : Option V) → IsChanged before digit new after → below ≡ child before digit → look new ≡ cond rest v (look below)
      → (at : ℕ) → look (child after at) ≡ cond (nat_eq at digit && rest) v (look (child before at))
  changed_below look before after digit below new rest v c e h at = ap look (c at) ∙ changed_by look before digit at new (nat_eq at digit) rest v refl (h ∙ ap (λ b. cond rest v (look b)) e)

module _ {V : Type 0} where
  -- rows that are changed on the way to a key have another value under this key alone
  pub value_changed :
      (rows : Rows V) (fours threes twos ones : _) (rows' : Rows V) (fours' threes' twos' ones' : _) (key : ℕ) (v : Option V)
      → fours ≡ child rows (key / 65536) → threes ≡ child fours (key / 4096 % 16) → twos ≡ child threes (key / 256 % 16) → ones ≡ child twos (key / 16 % 16)
      → IsChanged rows (key / 65536) fours' rows' → IsChanged fours (key / 4096 % 16) threes' fours' → IsChanged threes (key / 256 % 16) twos' threes' → IsChanged twos (key / 16 % 16) ones' twos' → IsChanged ones (key % 16) v ones'
      → (at : ℕ) → value_at rows' at ≡ cond (nat_eq at key) v (value_at rows at)
  unfolding value_at
  value_changed rows fours threes twos ones rows' fours' threes' twos' ones' key v e4 e3 e2 e1 c5 c4 c3 c2 c1 at =
      let l2 = changed_below (λ r. child r (at % 16)) twos twos' (key / 16 % 16) ones ones' (nat_eq (at % 16) (key % 16)) v c2 e1 (c1 (at % 16)) (at / 16 % 16) in
      let l3 = changed_below (λ r. child (child r (at / 16 % 16)) (at % 16)) threes threes' (key / 256 % 16) twos twos' _ v c3 e2 l2 (at / 256 % 16) in
      let l4 = changed_below (λ r. child (child (child r (at / 256 % 16)) (at / 16 % 16)) (at % 16)) fours fours' (key / 4096 % 16) threes threes' _ v c4 e3 l3 (at / 4096 % 16) in
      let l5 = changed_below (λ r. child (child (child (child r (at / 4096 % 16)) (at / 256 % 16)) (at / 16 % 16)) (at % 16)) rows rows' (key / 65536) fours fours' _ v c5 e4 l4 (at / 65536) in
      l5 ∙ ap (λ b. cond b v (value_at rows at)) (sym (same_digits at key))

  -- ---- finite maps of a function

  get_with_by : (m : FinMap nat_cmp V) (q n : ℕ) (v : V) (e : Bool) → cond e (Some v) (get m q) ≡ cond (e && true) (Some v) (get m q)
  get_with_by m q n v true = refl
  get_with_by m q n v false = refl

  and_none : (e : Bool) (o : Option V) → o ≡ cond (e && false) None o
  and_none true o = refl
  and_none false o = refl

  get_with_some : (m : FinMap nat_cmp V) (n : ℕ) (o : Option V) (q : ℕ) → get (with_some m n o) q ≡ cond (nat_eq q n && is_some o) o (get m q)
  get_with_some m n None q = and_none (nat_eq q n) (get m q)
  get_with_some m n (Some v) q = get-insert nat_cmp_total m n v q ∙ ap (λ b. cond b (Some v) (get m q)) (unsigned_tied q n) ∙ get_with_by m q n v (nat_eq q n)

  settle : (q n : ℕ) (f : ℕ → Option V) (o : Option V) (l e m : Bool) → nat_lt q n ≡ l → nat_eq q n ≡ e → nat_lt q (suc n) ≡ m → f n ≡ o → cond (e && is_some o) o (cond l (f q) None) ≡ cond m (f q) None
  settle q n f o true true m hl he hm ho = absurd (grind (arith, nat_tests))
  settle q n f o true false true hl he hm ho = refl
  settle q n f o true false false hl he hm ho = absurd (grind (arith, nat_tests))
  settle q n f (Some v) false true true hl he hm ho = sym (ap f (eq_true q n he) ∙ ho)
  settle q n f None false true true hl he hm ho = sym (ap f (eq_true q n he) ∙ ho)
  settle q n f o false true false hl he hm ho = absurd (grind (arith, nat_tests))
  settle q n f o false false true hl he hm ho = absurd (grind (arith, nat_tests))
  settle q n f o false false false hl he hm ho = refl

  pub get_tabulate : (n : ℕ) (f : ℕ → Option V) (q : ℕ) → get (tabulate n f) q ≡ cond (nat_lt q n) (f q) None
  unfolding tabulate
  get_tabulate zero f q = get-empty nat_cmp q ∙ ap (λ b. cond b (f q) None) (sym (lt_zero q (nat_lt q 0) refl))
  get_tabulate (suc n) f q = get_with_some (tabulate n f) n (f n) q ∙ ap (λ g. cond (nat_eq q n && is_some (f n)) (f n) g) (get_tabulate n f q)
      ∙ settle q n f (f n) (nat_lt q n) (nat_eq q n) (nat_lt q (suc n)) refl refl refl refl

  len_with_some : (m : FinMap nat_cmp V) (n : ℕ) (o : Option V) → len (with_some m n o) ≤ len m + 1
  len_with_some m n None = omega arith
  len_with_some m n (Some v) = subst (λ a. a ≤ len m + 1) (sym (len-insert nat_cmp_total m n v)) (len_with_by (contains_key m n) (len m))

  pub len_tabulate : (n : ℕ) (f : ℕ → Option V) → len (tabulate n f) ≤ n
  unfolding tabulate
  len_tabulate zero f = subst (λ a. a ≤ 0) (sym (len-empty nat_cmp V)) (omega arith)
  len_tabulate (suc n) f = omega (arith, len_with_some (tabulate n f) n (f n), len_tabulate n f)

  -- ---- what rows stand for

  pub get_map_of : (rows : Rows V) (q : ℕ) → get (map_of rows) q ≡ cond (nat_lt q 1048576) (value_at rows q) None
  unfolding map_of
  get_map_of rows q = get_tabulate 1048576 (value_at rows) q

  pub len_map_of : (rows : Rows V) → len (map_of rows) ≤ 1048576
  unfolding map_of
  len_map_of rows = len_tabulate 1048576 (value_at rows)

  pub get_below : (rows : Rows V) (q : ℕ) → q < 1048576 → get (map_of rows) q ≡ value_at rows q
  get_below rows q h = get_map_of rows q ∙ ap (λ b. cond b (value_at rows q) None) (lt_is q 1048576 _ h refl)

  pub get_beyond : (rows : Rows V) (q : ℕ) → 1048576 ≤ q → get (map_of rows) q ≡ None
  get_beyond rows q h = get_map_of rows q ∙ ap (λ b. cond b (value_at rows q) None) (not_lt_is q 1048576 _ h refl)

  -- what is under a key of the trie that is seen as a map
  pub get_lent : (rows lent : Rows V) (m : FinMap nat_cmp V) (q : ℕ) (o : Option V) → lent ≡ rows → map_of rows ≡ m → q < 1048576 → o ≡ value_at lent q → get m q ≡ o
  get_lent rows lent m q o e s h f = ap (λ z. get z q) (sym s) ∙ get_below rows q h ∙ ap (λ r. value_at r q) (sym e) ∙ sym f

  pub get_past : (rows : Rows V) (m : FinMap nat_cmp V) (q : ℕ) → map_of rows ≡ m → 1048576 ≤ q → get m q ≡ None
  get_past rows m q s h = ap (λ z. get z q) (sym s) ∙ get_beyond rows q h

  value_at_none : (q : ℕ) → value_at {V = V} None q ≡ None
  unfolding value_at
  value_at_none q = refl

  cond_none : (b : Bool) → cond {A = Option V} b None None ≡ None
  cond_none true = refl
  cond_none false = refl

  -- no rows are the empty map
  pub map_of_none : map_of {V = V} None ≡ empty
  map_of_none = same_map nat_cmp_total nat_cmp-IsAntisymmetric _ _ (λ q. get_map_of None q ∙ ap (λ o. cond (nat_lt q 1048576) o None) (value_at_none q) ∙ cond_none (nat_lt q 1048576) ∙ sym (get-empty nat_cmp q))

  insert_by : (before after : Rows V) (key : ℕ) (v : V) (q : ℕ) (e l : Bool) → nat_eq q key ≡ e → nat_lt q 1048576 ≡ l → key < 1048576
      → cond l (cond e (Some v) (value_at before q)) None ≡ cond e (Some v) (cond l (value_at before q) None)
  insert_by before after key v q true true he hl h = refl
  insert_by before after key v q true false he hl h = absurd (grind (arith, nat_tests))
  insert_by before after key v q false l he hl h = refl

  -- a value more in the rows is an entry more in the map
  pub map_of_insert :
      (before lent after : Rows V) (m : FinMap nat_cmp V) (key : ℕ) (v : V) → lent ≡ before → map_of before ≡ m → key < 1048576 → ((at : ℕ) → value_at after at ≡ cond (nat_eq at key) (Some v) (value_at lent at))
      → map_of after ≡ insert m key v
  map_of_insert before lent after m key v e s h c = same_map nat_cmp_total nat_cmp-IsAntisymmetric _ _ (λ q.
      get_map_of after q ∙ ap (λ o. cond (nat_lt q 1048576) o None) (c q ∙ ap (λ r. cond (nat_eq q key) (Some v) (value_at r q)) e) ∙ insert_by before after key v q (nat_eq q key) (nat_lt q 1048576) refl refl h
      ∙ sym (get-insert nat_cmp_total m key v q ∙ ap (λ b. cond b (Some v) (get m q)) (unsigned_tied q key) ∙ ap (λ o. cond (nat_eq q key) (Some v) o) (ap (λ z. get z q) (sym s) ∙ get_map_of before q)))

  remove_by : (e l : Bool) (o : Option V) → cond l (cond e None o) None ≡ cond e None (cond l o None)
  remove_by true true o = refl
  remove_by true false o = refl
  remove_by false l o = refl

  -- a value less in the rows is an entry less in the map
  pub map_of_remove :
      (before lent after : Rows V) (m : FinMap nat_cmp V) (key : ℕ) → lent ≡ before → map_of before ≡ m → ((at : ℕ) → value_at after at ≡ cond (nat_eq at key) None (value_at lent at))
      → map_of after ≡ remove m key
  map_of_remove before lent after m key e s c = same_map nat_cmp_total nat_cmp-IsAntisymmetric _ _ (λ q.
      get_map_of after q ∙ ap (λ o. cond (nat_lt q 1048576) o None) (c q ∙ ap (λ r. cond (nat_eq q key) None (value_at r q)) e) ∙ remove_by (nat_eq q key) (nat_lt q 1048576) (value_at before q)
      ∙ sym (get-remove nat_cmp_total m key q ∙ ap (λ b. cond b None (get m q)) (unsigned_tied q key) ∙ ap (λ o. cond (nat_eq q key) None o) (ap (λ z. get z q) (sym s) ∙ get_map_of before q)))

  -- ---- a key that is held

  held_by : (q : ℕ) (o : Option V) (l : Bool) → nat_lt q 1048576 ≡ l → is_some (cond l o None) ≡ true → q < 1048576
  held_by q o true e h = grind (arith, nat_tests)
  held_by q o false e h = absurd (cc)

  pub held_in : (rows : Rows V) (m : FinMap nat_cmp V) (q : ℕ) → map_of rows ≡ m → is_some (get m q) ≡ true → q < 1048576
  held_in rows m q s h = held_by q (value_at rows q) (nat_lt q 1048576) refl (ap is_some (sym (get_map_of rows q) ∙ ap (λ z. get z q) s) ∙ h)

  some_of_empty : {A : Type 0} (q : ℕ) (m : FinMap nat_cmp V) → m ≡ empty → is_some (get m q) ≡ true → A
  some_of_empty q m e h = let f : false ≡ true = ap is_some (sym (get-empty nat_cmp q)) ∙ ap (λ z. is_some (get z q)) (sym e) ∙ h in absurd (cc)

  one_by : (m : FinMap nat_cmp V) (q n : ℕ) → len m ≡ n → is_some (get m q) ≡ true → 1 ≤ n
  one_by m q zero e h = some_of_empty q m (empty_of_len m e) h
  one_by m q (suc n) e h = omega arith

  pub len_held : (m : FinMap nat_cmp V) (q : ℕ) → is_some (get m q) ≡ true → 1 ≤ len m
  len_held m q h = one_by m q (len m) refl h

  pub len_less : (m : FinMap nat_cmp V) (q : ℕ) → is_some (get m q) ≡ true → len (remove m q) ≡ len m - 1
  len_less m q h = len-remove nat_cmp_total m q ∙ less_by (is_some (get m q)) (len m) h

  -- what is lent is held as what it points to
  copied : (r : Option (Bor V)) → is_some (option_copied r) ≡ is_some r
  copied None = refl
  copied (Some x) = refl

  pub held_as : (r : Option (Bor V)) (o : Option V) (b : Bool) → option_copied r ≡ o → is_some r ≡ b → is_some o ≡ b
  held_as r o b e h = ap is_some (sym e) ∙ copied r ∙ h

  pub nothing : (o : Option V) → is_some o ≡ false → o ≡ None
  nothing None h = refl
  nothing (Some v) h = absurd (cc)
