-- No part of an entry begins another of its kind: equal bytes are equal parts and equal rests.
use Rattle.std.proofs.Common.{arith, ◌≡◌, ◌<◌, ◌^◌, ◌∙◌, ℕ, pred, Bool, true, false, List, [], ◌∷◌, ◌++◌, length, take, drop, refl, sym, ap, take_at, drop_at}
use Rattle.std.specs.Int.{w32, from_le_bytes}
use Rattle.std.specs.List.{All, flat_map}
use Rattle.std.proofs.lemmas.List.Elements.{All-head, All-tail}
use Rattle.std.proofs.lemmas.Nat.{from_le_bytes-to_le_bytes_4}
use Rattle.mt_tokens.specs.CacheEntries.{CacheEntry, CanBeKept, EntryName, IsEntryName, entry_bytes, kind_byte, name_byte, name_bytes, sized, strip_byte, word}
use Rattle.mt_tokens.specs.declared.source.DepKind.{DepKind}
use Rattle.mt_tokens.specs.declared.source.DepKind.TheVariants.{Require, Import, ImportCall}
use Rattle.mt_tokens.specs.declared.source.PathKind.{PathKind}
use Rattle.mt_tokens.specs.declared.source.PathKind.TheVariants.{Script, Json}

-- ---- lists

same_head : (x y : ℕ) (xs ys : List ℕ) → x ∷ xs ≡ y ∷ ys → x ≡ y
same_head x y xs ys e = cc

same_rest : (x y : ℕ) (xs ys : List ℕ) → x ∷ xs ≡ y ∷ ys → xs ≡ ys
same_rest x y xs ys e = cc

pub same_parts : (xs ys r s : List ℕ) → length xs ≡ length ys → xs ++ r ≡ ys ++ s → (xs ≡ ys) × (r ≡ s)
same_parts xs ys r s l e = (
  sym (take_at xs r (length ys) l) ∙ ap (take (length ys)) e ∙ take_at ys s (length ys) refl,
  sym (drop_at xs r (length ys) l) ∙ ap (drop (length ys)) e ∙ drop_at ys s (length ys) refl,
)

-- ---- numbers, texts and names

pub same_word : (m n : ℕ) (r s : List ℕ) → m < 2 ^ 32 → n < 2 ^ 32 → word m ++ r ≡ word n ++ s → (m ≡ n) × (r ≡ s)
same_word m n r s small_m small_n e =
    let p = same_parts (word m) (word n) r s refl e in
    (sym (from_le_bytes-to_le_bytes_4 m small_m) ∙ ap (from_le_bytes w32) p.0 ∙ from_le_bytes-to_le_bytes_4 n small_n, p.1)

pub same_sized : (a b r s : List ℕ) → length a < 2 ^ 32 → length b < 2 ^ 32 → sized a ++ r ≡ sized b ++ s → (a ≡ b) × (r ≡ s)
same_sized a b r s small_a small_b e =
    let w = same_word (length a) (length b) (a ++ r) (b ++ s) small_a small_b e in
    same_parts a b r s w.0 w.1

same_kind : (a b : DepKind) → name_byte a ≡ name_byte b → a ≡ b
same_kind Require Require e = refl
same_kind Require Import e = absurd (cc)
same_kind Require ImportCall e = absurd (cc)
same_kind Import Require e = absurd (cc)
same_kind Import Import e = refl
same_kind Import ImportCall e = absurd (cc)
same_kind ImportCall Require e = absurd (cc)
same_kind ImportCall Import e = absurd (cc)
same_kind ImportCall ImportCall e = refl

name_from : {a b : EntryName} → a.text ≡ b.text → a.kind ≡ b.kind → a ≡ b
name_from {a} {b} t k = ap (λ x. record { text = x; kind = a.kind }) t ∙ ap (λ x. record { text = b.text; kind = x }) k

pub same_name : (a b : EntryName) (r s : List ℕ) → IsEntryName a → IsEntryName b → name_bytes a ++ r ≡ name_bytes b ++ s → (a ≡ b) × (r ≡ s)
same_name a b r s is_a is_b e =
    let k = same_kind a.kind b.kind (same_head _ _ _ _ e) in
    let t = same_sized a.text b.text r s is_a.short is_b.short (same_rest _ _ _ _ e) in
    (name_from t.0 k, t.1)

-- as many names
pub same_names : (xs ys : List EntryName) → length xs ≡ length ys → All IsEntryName xs → All IsEntryName ys → flat_map name_bytes xs ≡ flat_map name_bytes ys → xs ≡ ys
same_names [] [] l p q e = refl
same_names [] (y ∷ ys) l p q e = absurd (cc)
same_names (x ∷ xs) [] l p q e = absurd (cc)
same_names (x ∷ xs) (y ∷ ys) l p q e =
    let n = same_name x y (flat_map name_bytes xs) (flat_map name_bytes ys) (All-head IsEntryName x xs p) (All-head IsEntryName y ys q) e in
    let more = same_names xs ys (ap pred l) (All-tail IsEntryName x xs p) (All-tail IsEntryName y ys q) n.1 in
    ap (λ z. z ∷ xs) n.0 ∙ ap (λ zs. y ∷ zs) more

-- ---- entries

same_strip : (a b : Bool) → strip_byte a ≡ strip_byte b → a ≡ b
same_strip true true e = refl
same_strip false false e = refl
same_strip true false e = absurd (cc)
same_strip false true e = absurd (cc)

same_path_kind : (a b : PathKind) → kind_byte a ≡ kind_byte b → a ≡ b
same_path_kind Script Script e = refl
same_path_kind Json Json e = refl
same_path_kind Script Json e = absurd (cc)
same_path_kind Json Script e = absurd (cc)

entry_from : (e f : CacheEntry) → e.strip ≡ f.strip → e.kind ≡ f.kind → e.source ≡ f.source → e.body ≡ f.body → e.dynamic ≡ f.dynamic → e.names ≡ f.names → e ≡ f
entry_from e f p k s b d n =
    ap (λ x. record { strip = x; kind = e.kind; source = e.source; body = e.body; dynamic = e.dynamic; names = e.names }) p
    ∙ ap (λ x. record { strip = f.strip; kind = x; source = e.source; body = e.body; dynamic = e.dynamic; names = e.names }) k
    ∙ ap (λ x. record { strip = f.strip; kind = f.kind; source = x; body = e.body; dynamic = e.dynamic; names = e.names }) s
    ∙ ap (λ x. record { strip = f.strip; kind = f.kind; source = f.source; body = x; dynamic = e.dynamic; names = e.names }) b
    ∙ ap (λ x. record { strip = f.strip; kind = f.kind; source = f.source; body = f.body; dynamic = x; names = e.names }) d
    ∙ ap (λ x. record { strip = f.strip; kind = f.kind; source = f.source; body = f.body; dynamic = f.dynamic; names = x }) n

-- bytes are those of one entry
pub same_entry : (e f : CacheEntry) → CanBeKept e → CanBeKept f → entry_bytes e ≡ entry_bytes f → e ≡ f
same_entry e f can_e can_f same =
    let after : strip_byte e.strip ∷ kind_byte e.kind ∷ (sized e.source ++ (sized e.body ++ (word e.dynamic ++ (word (length e.names) ++ flat_map name_bytes e.names))))
    ≡ strip_byte f.strip ∷ kind_byte f.kind ∷ (sized f.source ++ (sized f.body ++ (word f.dynamic ++ (word (length f.names) ++ flat_map name_bytes f.names)))) = same_rest _ _ _ _ (same_rest _ _ _ _ (same_rest _ _ _ _ (same_rest _ _ _ _ same))) in
    let strip = same_strip e.strip f.strip (same_head _ _ _ _ after) in
    let kinds = same_rest _ _ _ _ after in
    let kind = same_path_kind e.kind f.kind (same_head _ _ _ _ kinds) in
    let source = same_sized e.source f.source _ _ can_e.source can_f.source (same_rest _ _ _ _ kinds) in
    let body = same_sized e.body f.body _ _ can_e.body can_f.body source.1 in
    let dynamic = same_word e.dynamic f.dynamic _ _ can_e.dynamic can_f.dynamic body.1 in
    let few_e = can_e.few in
    let few_f = can_f.few in
    let count = same_word (length e.names) (length f.names) _ _ (omega arith) (omega arith) dynamic.1 in
    let names = same_names e.names f.names count.0 can_e.names can_f.names count.1 in
    entry_from e f strip kind source.0 body.0 dynamic.0 names
