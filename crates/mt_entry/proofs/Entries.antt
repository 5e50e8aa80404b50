-- Bytes say one entry at most, and honest bytes say outputs that are what their sources become.
use Rattle.std.proofs.Common.{◌≡◌, ◌∙◌, ℕ, List, [], ◌∷◌, map, refl, sym, ap, subst, Some, Result, Ok, Err}
use Rattle.mt_tokens.specs.CacheEntries.{CacheEntry, EntryName, IsHonest, Says, entry_name, source_entry, transformed_entry}
use Rattle.mt_tokens.specs.Deps.{Dependency}
use Rattle.mt_tokens.specs.Transform.{Transformed, transformed}
use Rattle.mt_tokens.specs.declared.source.SourceFault.{SourceFault}
use Rattle.mt_transform.specs.OutputValues.{OutputValue}
use Rattle.mt_transform.specs.Outputs.{IsSure, name_of, output_made}
use Rattle.mt_transform.specs.declared.output.Name.{Name}
use Rattle.mt_entry.specs.Entries.{entry_name_of, entry_of}
use Rattle.mt_entry.proofs.Prefixes.{same_entry}

-- bytes say one entry at most
pub one_entry : (bytes : List ℕ) (e f : CacheEntry) → Says bytes e → Says bytes f → e ≡ f
one_entry bytes e f says_e says_f = same_entry e f says_e.can says_f.can (sym says_e.spelled ∙ says_f.spelled)

-- ---- the names of dependencies

same_name_of : (d : Dependency) (name : Name) → entry_name d ≡ entry_name_of name → name_of d ≡ name
same_name_of d name e = ap (λ (n : EntryName). record { text = n.text; kind = n.kind }) e

same_head : (x y : EntryName) (xs ys : List EntryName) → x ∷ xs ≡ y ∷ ys → x ≡ y
same_head x y xs ys e = cc

same_rest : (x y : EntryName) (xs ys : List EntryName) → x ∷ xs ≡ y ∷ ys → xs ≡ ys
same_rest x y xs ys e = cc

names_from : (ds : List Dependency) (names : List Name) → map entry_name ds ≡ map entry_name_of names → map name_of ds ≡ names
names_from [] [] e = refl
names_from [] (name ∷ names) e = absurd (cc)
names_from (d ∷ ds) [] e = absurd (cc)
names_from (d ∷ ds) (name ∷ names) e =
    ap (λ n. n ∷ map name_of ds) (same_name_of d name (same_head _ _ _ _ e)) ∙ ap (λ ns. name ∷ ns) (names_from ds names (same_rest _ _ _ _ e))

names_to : (ds : List Dependency) → map entry_name ds ≡ map entry_name_of (map name_of ds)
names_to [] = refl
names_to (d ∷ ds) = ap (λ es. entry_name d ∷ es) (names_to ds)

-- ---- what a source became, as an entry and as an output

some_is : (e f : CacheEntry) → Some e ≡ Some f → e ≡ f
some_is e f h = cc

made_from : (o : OutputValue) (t : Result Transformed SourceFault) → transformed_entry o.strip o.kind o.source t ≡ Some (entry_of o) → output_made o.strip o.kind o.source t ≡ Ok o
made_from o (Err f) e = absurd (cc)
made_from o (Ok t) e =
    let same = some_is _ (entry_of o) e in
    ap (λ b. Ok (record { source = o.source; strip = o.strip; kind = o.kind; body = b; names = map name_of t.dependencies; dynamic = t.dynamic })) (ap (λ (x : CacheEntry). x.body) same)
    ∙ ap (λ ns. Ok (record { source = o.source; strip = o.strip; kind = o.kind; body = o.body; names = ns; dynamic = t.dynamic })) (names_from t.dependencies o.names (ap (λ (x : CacheEntry). x.names) same))
    ∙ ap (λ d. Ok (record { source = o.source; strip = o.strip; kind = o.kind; body = o.body; names = o.names; dynamic = d })) (ap (λ (x : CacheEntry). x.dynamic) same)

abbrev Made : OutputValue → OutputValue → Type 0
Made o p = let made : Result OutputValue SourceFault = Ok o in made ≡ Ok p

ok_is : (o p : OutputValue) → Made o p → o ≡ p
ok_is o p h = cc

entry_from : (o : OutputValue) (t : Result Transformed SourceFault) → output_made o.strip o.kind o.source t ≡ Ok o → transformed_entry o.strip o.kind o.source t ≡ Some (entry_of o)
entry_from o (Err f) e = absurd (cc)
entry_from o (Ok t) e =
    let same = ok_is _ o e in
    ap (λ ns. Some (record { strip = o.strip; kind = o.kind; source = o.source; body = t.body; dynamic = t.dynamic; names = ns })) (names_to t.dependencies)
    ∙ ap (λ p. Some (entry_of p)) same

-- ---- honest bytes

-- what honest bytes say of an output is what its source becomes
pub made_sure : (bytes : List ℕ) (o : OutputValue) → IsHonest bytes → Says bytes (entry_of o) → IsSure o
made_sure bytes o honest says = made_from o (transformed o.strip o.kind o.source) (honest.own (entry_of o) says)

-- bytes that say an output that is what its source becomes are honest
pub made_honest : (bytes : List ℕ) (o : OutputValue) → IsSure o → Says bytes (entry_of o) → IsHonest bytes
made_honest bytes o sure says = record {
  own = λ e says_e. subst (λ f. source_entry f.strip f.kind f.source ≡ Some f) (one_entry bytes (entry_of o) e says says_e) (entry_from o (transformed o.strip o.kind o.source) sure);
}
