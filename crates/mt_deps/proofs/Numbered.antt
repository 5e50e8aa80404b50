-- The numbers of names, by kind.
use Rattle.std.proofs.Common.{◌≡◌, ℕ, ◌+◌, List, [], ◌∷◌, ◌++◌, length, Bool, true, false, ◌&&◌, cond, Some, None, Option, refl, sym, ◌∙◌, ap, arith}
use Rattle.std.specs.Prelude.{option_map, unwrap_or, is_some}
use Rattle.std.specs.List.{fold}
use Rattle.std.specs.Option.{option_or}
use Rattle.std.specs.Str.{bytes_eq}
use Rattle.std.specs.Ordering.{nat_cmp}
use Rattle.std.specs.Cmp.{eq_by_cmp_equiv}
use Rattle.std.specs.Cmp.Lexicographic.{slice_cmp, nat_list_cmp_total}
use Rattle.std.specs.FinMap as map
use Rattle.std.specs.FinMap.{FinMap}
use Rattle.std.proofs.lemmas.Bool.Decides.{Decides-eqb}
use Rattle.std.proofs.lemmas.Map.Text.{is_eq-slice_cmp}
use Rattle.std.proofs.lemmas.Slice.Eq.{slice_eq-Decides}
use Rattle.mt_tokens.specs.Deps.{Dependency, is_named, number_in, number_of, same_kind, with_first}
use Rattle.mt_tokens.specs.declared.source.DepKind.{DepKind}
use Rattle.mt_tokens.specs.declared.source.DepKind.TheVariants.{Import, ImportCall, Require}
use Rattle.mt_deps.specs.Numbers.{Numbers, added, at_kind, no_row, row_of, with_kind}
use Rattle.mt_deps.specs.declared.numbers.Row.{Row}

-- the number of one more at the end
abbrev next : List ℕ → DepKind → List Dependency → Dependency → Option ℕ
next name kind ds d = cond (is_named name kind d) (Some (length ds)) None

shifted : (o : Option ℕ) (b : Bool) (n : ℕ) → option_map (λ k. k + 1) (option_or o (cond b (Some n) None)) ≡ option_or (option_map (λ k. k + 1) o) (cond b (Some (n + 1)) None)
shifted None true n = refl
shifted None false n = refl
shifted (Some k) b n = refl

number_more :
    (b c : Bool) (o p : Option ℕ) (n m : ℕ) → p ≡ option_or o (cond c (Some n) None) → m ≡ n + 1 →
    cond b (Some 0) (option_map (λ k. k + 1) p) ≡ option_or (cond b (Some 0) (option_map (λ k. k + 1) o)) (cond c (Some m) None)
number_more true c o p n m e f = refl
number_more false c o p n m e f = rw (e, f) (shifted o c n)

number_append : (name : List ℕ) (kind : DepKind) (ds : List Dependency) (d : Dependency) → number_of name kind (ds ++ d ∷ []) ≡ option_or (number_of name kind ds) (next name kind ds d)
number_append name kind [] d = refl
number_append name kind (x ∷ ds) d =
    let m : length (x ∷ ds) ≡ length ds + 1 = grind arith in
    number_more (is_named name kind x) (is_named name kind d) (number_of name kind ds) (number_of name kind (ds ++ d ∷ [])) (length ds) (length (x ∷ ds)) (number_append name kind ds d) m

same_itself : (a : List ℕ) → bytes_eq a a ≡ true
same_itself a = (slice_eq-Decides Decides-eqb a a _ refl).1 refl

same_name : (a b : List ℕ) → bytes_eq a b ≡ true → a ≡ b
same_name a b = (slice_eq-Decides Decides-eqb a b _ refl).0

kind_itself : (k : DepKind) → same_kind k k ≡ true
kind_itself Require = refl
kind_itself Import = refl
kind_itself ImportCall = refl

-- the number of a new one
pub new_number : (ds : List Dependency) (d : Dependency) → number_of d.name d.kind ds ≡ None → number_of d.name d.kind (ds ++ d ∷ []) ≡ Some (length ds)
new_number ds d h = number_append d.name d.kind ds d ∙ rw (h, kind_itself d.kind, same_itself d.name) refl

-- what a row says of a kind
pub row_kind : (ds : List Dependency) (name : List ℕ) (k : DepKind) → at_kind (row_of ds name) k ≡ number_of name k ds
row_kind ds name Require = refl
row_kind ds name Import = refl
row_kind ds name ImportCall = refl

or_none : (o : Option ℕ) → option_or o None ≡ o
or_none None = refl
or_none (Some n) = refl

and_false : (b : Bool) → (b && false) ≡ false
and_false true = refl
and_false false = refl

number_other : (name : List ℕ) (kind : DepKind) (ds : List Dependency) (d : Dependency) → bytes_eq d.name name ≡ false → number_of name kind (ds ++ d ∷ []) ≡ number_of name kind ds
number_other name kind ds d e = number_append name kind ds d ∙ rw (e, and_false (same_kind d.kind kind)) (or_none (number_of name kind ds))

-- the row of another name
row_other : (ds : List Dependency) (d : Dependency) (name : List ℕ) → bytes_eq d.name name ≡ false → row_of (ds ++ d ∷ []) name ≡ row_of ds name
row_other ds d name e = rw (number_other name Require ds d e, number_other name Import ds d e, number_other name ImportCall ds d e) refl

number_here :
    (kind : DepKind) (ds : List Dependency) (d : Dependency) (same : Bool) → same_kind d.kind kind ≡ same →
    number_of d.name kind (ds ++ d ∷ []) ≡ option_or (number_of d.name kind ds) (cond same (Some (length ds)) None)
number_here kind ds d true e = number_append d.name kind ds d ∙ rw (e, same_itself d.name) refl
number_here kind ds d false e = number_append d.name kind ds d ∙ rw e refl

-- the row of this name
row_by : (ds : List Dependency) (d : Dependency) (k : DepKind) → d.kind ≡ k → number_of d.name k ds ≡ None → row_of (ds ++ d ∷ []) d.name ≡ with_kind (row_of ds d.name) k (length ds)
row_by ds d Require e h =
    let a : number_of d.name Require (ds ++ d ∷ []) ≡ Some (length ds) = number_here Require ds d true (rw e refl) ∙ rw h refl in
    let b : number_of d.name Import (ds ++ d ∷ []) ≡ number_of d.name Import ds = number_here Import ds d false (rw e refl) ∙ or_none _ in
    let c : number_of d.name ImportCall (ds ++ d ∷ []) ≡ number_of d.name ImportCall ds = number_here ImportCall ds d false (rw e refl) ∙ or_none _ in
    rw (a, b, c) refl
row_by ds d Import e h =
    let a : number_of d.name Import (ds ++ d ∷ []) ≡ Some (length ds) = number_here Import ds d true (rw e refl) ∙ rw h refl in
    let b : number_of d.name Require (ds ++ d ∷ []) ≡ number_of d.name Require ds = number_here Require ds d false (rw e refl) ∙ or_none _ in
    let c : number_of d.name ImportCall (ds ++ d ∷ []) ≡ number_of d.name ImportCall ds = number_here ImportCall ds d false (rw e refl) ∙ or_none _ in
    rw (a, b, c) refl
row_by ds d ImportCall e h =
    let a : number_of d.name ImportCall (ds ++ d ∷ []) ≡ Some (length ds) = number_here ImportCall ds d true (rw e refl) ∙ rw h refl in
    let b : number_of d.name Require (ds ++ d ∷ []) ≡ number_of d.name Require ds = number_here Require ds d false (rw e refl) ∙ or_none _ in
    let c : number_of d.name Import (ds ++ d ∷ []) ≡ number_of d.name Import ds = number_here Import ds d false (rw e refl) ∙ or_none _ in
    rw (a, b, c) refl

row_here : (ds : List Dependency) (d : Dependency) (name : List ℕ) → d.name ≡ name → number_of d.name d.kind ds ≡ None → with_kind (row_of ds d.name) d.kind (length ds) ≡ row_of (ds ++ d ∷ []) name
row_here ds d name e h = sym (row_by ds d d.kind refl h) ∙ ap (row_of (ds ++ d ∷ [])) e

rows_at :
    (ds : List Dependency) (d : Dependency) (name : List ℕ) (same : Bool) (o : Option Row) (r : Row) → bytes_eq d.name name ≡ same → unwrap_or o no_row ≡ row_of ds name →
    r ≡ with_kind (row_of ds d.name) d.kind (length ds) → number_of d.name d.kind ds ≡ None → unwrap_or (cond same (Some r) o) no_row ≡ row_of (ds ++ d ∷ []) name
rows_at ds d name true o r e i f h = f ∙ row_here ds d name (same_name d.name name e) h
rows_at ds d name false o r e i f h = i ∙ sym (row_other ds d name e)

-- a new one in the table
pub numbers_more :
    (m : FinMap (slice_cmp nat_cmp) Row) (ds : List Dependency) (d : Dependency) (r : Row) → Numbers m ds → number_of d.name d.kind ds ≡ None →
    r ≡ with_kind (row_of ds d.name) d.kind (length ds) → Numbers (map.insert m d.name r) (ds ++ d ∷ [])
numbers_more m ds d r h e f = λ name.
    ap (λ o. unwrap_or o no_row) (map.get-insert nat_list_cmp_total m d.name r name)
    ∙ rw ((eq_by_cmp_equiv nat_list_cmp_total).symm name d.name, is_eq-slice_cmp d.name name)
    (rows_at ds d name (bytes_eq d.name name) (map.get m name) r refl (h name) f e)

-- no name has a number in an empty table
pub numbers_none : Numbers map.empty []
numbers_none name = ap (λ o. unwrap_or o no_row) (map.get-empty (slice_cmp nat_cmp) name)

keeps_by : (ds : List Dependency) (d : Dependency) (name : List ℕ) (kind : DepKind) (n : ℕ) (b : Bool) → number_of name kind ds ≡ Some n → number_of name kind (cond b ds (ds ++ d ∷ [])) ≡ Some n
keeps_by ds d name kind n true h = h
keeps_by ds d name kind n false h = number_append name kind ds d ∙ rw h refl

-- a number stays
number_stays : (ds more : List Dependency) (name : List ℕ) (kind : DepKind) (n : ℕ) → number_of name kind ds ≡ Some n → number_of name kind (fold with_first ds more) ≡ Some n
number_stays ds [] name kind n h = h
number_stays ds (d ∷ more) name kind n h = number_stays (with_first ds d) more name kind n (keeps_by ds d name kind n (is_some (number_of d.name d.kind ds)) h)

-- the number of one that is there, or is added
first_by : (ds : List Dependency) (d : Dependency) (o : Option ℕ) → number_of d.name d.kind ds ≡ o → number_of d.name d.kind (cond (is_some o) ds (ds ++ d ∷ [])) ≡ Some (unwrap_or o (length ds))
first_by ds d None h = new_number ds d h
first_by ds d (Some n) h = h

pub first_number : (ds : List Dependency) (d : Dependency) → number_of d.name d.kind (with_first ds d) ≡ Some (unwrap_or (number_of d.name d.kind ds) (length ds))
first_number ds d = first_by ds d (number_of d.name d.kind ds) refl

-- the number of a dependency stays, once it is added
pub number_then : (ds more : List Dependency) (o : Option Dependency) → number_in (fold with_first (added ds o) more) o ≡ number_in (added ds o) o
number_then ds more None = refl
number_then ds more (Some d) =
    let f = first_number ds d in
    rw (number_stays (with_first ds d) more d.name d.kind _ f, f) refl
