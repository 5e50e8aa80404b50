-- The text of segments is a path, and the parts of a path are its segments.
use Rattle.std.proofs.Common.{filter, cond, suc, zero, sym, if◌then◌else◌, ◌||◌, Bool, Option, Some, ◌≤◌, ◌-◌, take, arith, ◌≡◌, ◌+◌, ◌&&◌, not, true, false, ℕ, List, [], ◌∷◌, ◌++◌, length, ap, refl, ◌∙◌, None, ◌==◌, nat_lt, cond}
use Rattle.std.specs.Str.{bytes_eq}
use Rattle.std.specs.Option.{IfSome}
use Rattle.std.specs.List.{list_all, flat_map, onto_first, prefix_len}
use Rattle.std.proofs.lemmas.Bool.{and_parts, and_from, not-true}
use Rattle.std.proofs.lemmas.List.Splits.{slice_split-cons_no}
use Rattle.std.proofs.lemmas.List.{append-nil}
use Rattle.mt_path.specs.Segments.{is_segment, is_segment_byte, text_of, parts_of, segments_of}
use Rattle.std.proofs.lemmas.List.Folds.{list_all-append}
use Rattle.mt_path.specs.Join.{down, step, up, walk}
use Rattle.mt_path.specs.Parse.{IsPath, first_bad}

-- a segment's bytes are not `/`
not_slash : (b : ℕ) → is_segment_byte b ≡ true → (b == 47) ≡ false
not_slash b h = not-true _ (and_parts (not (nat_lt b 0x20) && not (b == 0x7f)) (not (b == 47)) h).1

-- a segment is one part
pub split_last : (s : List ℕ) → list_all is_segment_byte s ≡ true → parts_of s ≡ s ∷ []
split_last [] h = refl
split_last (b ∷ s) h = let p = and_parts (is_segment_byte b) (list_all is_segment_byte s) h in slice_split-cons_no _ b s (not_slash b p.0) ∙ ap (onto_first b) (split_last s p.1)

-- a segment before `/` is the first part
split_first : (s rest : List ℕ) → list_all is_segment_byte s ≡ true → parts_of (s ++ 47 ∷ rest) ≡ s ∷ parts_of rest
split_first [] rest h = refl
split_first (b ∷ s) rest h =
    let p = and_parts (is_segment_byte b) (list_all is_segment_byte s) h in
    slice_split-cons_no _ b (s ++ 47 ∷ rest) (not_slash b p.0) ∙ ap (onto_first b) (split_first s rest p.1)

-- the bytes of a segment
pub bytes_of : (s : List ℕ) → is_segment s ≡ true → list_all is_segment_byte s ≡ true
bytes_of s h =
    (and_parts (not (length s == 0) && not (bytes_eq s (46 ∷ [])) && not (bytes_eq s (46 ∷ 46 ∷ []))) (list_all is_segment_byte s) h).1

-- the parts of what follows the first `/` are the segments
pub parts_after : (s : List ℕ) (ss : List (List ℕ)) → list_all is_segment (s ∷ ss) ≡ true → parts_of (s ++ flat_map (λ x. 47 ∷ x) ss) ≡ s ∷ ss
parts_after s [] h = ap parts_of (append-nil s) ∙ split_last s (bytes_of s (and_parts (is_segment s) true h).0)
parts_after s (t ∷ ts) h =
    let p = and_parts (is_segment s) (list_all is_segment (t ∷ ts)) h in
    split_first s (t ++ flat_map (λ x. 47 ∷ x) ts) (bytes_of s p.0) ∙ ap (λ ps. s ∷ ps) (parts_after t ts p.1)

-- segments pass to the end
all_pass : (ss : List (List ℕ)) → list_all is_segment ss ≡ true → prefix_len (λ s. not (not (is_segment s))) ss ≡ length ss
all_pass [] h = refl
all_pass (s ∷ ss) h =
    let p = and_parts (is_segment s) (list_all is_segment ss) h in
    ap (λ b. cond (not (not b)) (1 + prefix_len (λ x. not (not (is_segment x))) ss) 0) p.0 ∙ ap (λ n. 1 + n) (all_pass ss p.1) ∙ omega arith

-- of segments none is bad
pub none_bad : (ss : List (List ℕ)) → list_all is_segment ss ≡ true → first_bad ss ≡ None
none_bad ss h = let e = all_pass ss h in grind arith

-- where none is bad all are segments
pub all_from_none_bad : (ss : List (List ℕ)) → first_bad ss ≡ None → list_all is_segment ss ≡ true
all_from_none_bad [] h = refl
all_from_none_bad (s ∷ ss) h = grind (arith, all_from_none_bad ss)

-- what passes a filter are segments where all are
filter_keeps : (p : List ℕ → Bool) (ss : List (List ℕ)) → list_all is_segment ss ≡ true → list_all is_segment (filter p ss) ≡ true
filter_keeps p [] h = refl
filter_keeps p (s ∷ ss) h = let k = filter_keeps p ss (and_parts (is_segment s) (list_all is_segment ss) h).1 in grind arith

-- a path's text begins with `/`, and no part after it is bad
pub path_parts : (c b : ℕ) (bs : List ℕ) → IsPath (c ∷ b ∷ bs) → (c ≡ 47) × (first_bad (parts_of (b ∷ bs)) ≡ None)
path_parts c b bs h = (grind arith, grind arith)

-- the segments of a path
pub segments_all : (text : List ℕ) → IsPath text → list_all is_segment (segments_of text) ≡ true
segments_all [] h = grind arith
segments_all (c ∷ []) h = grind arith
segments_all (c ∷ b ∷ bs) h =
    let p = path_parts c b bs h in
    rw p.0 (filter_keeps (λ s. not (length s == 0)) (parts_of (b ∷ bs)) (all_from_none_bad (parts_of (b ∷ bs)) p.1))

-- the text of segments is a path
pub text_is_path : (ss : List (List ℕ)) → list_all is_segment ss ≡ true → length (text_of ss) ≤ 1024 → IsPath (text_of ss)
text_is_path [] h short = refl
text_is_path ([] ∷ ss) h short = grind arith
text_is_path ((b ∷ bs) ∷ ss) h short =
    let good = ap first_bad (parts_after (b ∷ bs) ss h) ∙ none_bad ((b ∷ bs) ∷ ss) h in grind arith

-- none, or segments
abbrev Keeps : Option (List (List ℕ)) → Type 0
Keeps to = IfSome to (λ ss. list_all is_segment ss ≡ true)

keeps_either : (b : Bool) (x y : Option (List (List ℕ))) → (b ≡ true → Keeps x) → (b ≡ false → Keeps y) → Keeps (cond b x y)
keeps_either true x y h k = h refl
keeps_either false x y h k = k refl

-- a prefix of segments
pub take_keeps : (n : ℕ) (ss : List (List ℕ)) → list_all is_segment ss ≡ true → list_all is_segment (take n ss) ≡ true
take_keeps zero ss h = refl
take_keeps (suc n) [] h = refl
take_keeps (suc n) (s ∷ ss) h =
    let p = and_parts (is_segment s) (list_all is_segment ss) h in and_from (is_segment s) (list_all is_segment (take n ss)) p.0 (take_keeps n ss p.1)

-- segments and one more
pub push_keeps : (ss : List (List ℕ)) (s : List ℕ) → list_all is_segment ss ≡ true → is_segment s ≡ true → list_all is_segment (ss ++ s ∷ []) ≡ true
push_keeps ss s h k = list_all-append is_segment ss (s ∷ []) ∙ and_from (list_all is_segment ss) (is_segment s && true) h (and_from (is_segment s) true k refl)

-- a part leads from segments to segments
step_keeps : (ss : List (List ℕ)) (part : List ℕ) → list_all is_segment ss ≡ true → Keeps (step ss part)
step_keeps ss part h =
    keeps_either (length part == 0 || bytes_eq part (46 ∷ [])) (Some ss) (if bytes_eq part (46 ∷ 46 ∷ []) then up ss else down ss part) (λ _. h)
    (λ _.
    keeps_either (bytes_eq part (46 ∷ 46 ∷ [])) (up ss) (down ss part)
    (λ _. keeps_either (length ss == 0) None (Some (take (length ss - 1) ss)) (λ _. tt) (λ _. take_keeps (length ss - 1) ss h))
    (λ _. keeps_either (is_segment part) (Some (ss ++ part ∷ [])) None (λ k. push_keeps ss part h k) (λ _. tt)))

-- parts lead from segments to segments
walk_keeps : (from : Option (List (List ℕ))) (parts : List (List ℕ)) → IfSome from (λ ss. list_all is_segment ss ≡ true) → IfSome (walk from parts) (λ ss. list_all is_segment ss ≡ true)
walk_keeps from [] h = h
walk_keeps None (p ∷ ps) h = walk_keeps None ps tt
walk_keeps (Some ss) (p ∷ ps) h = walk_keeps (step ss p) ps (step_keeps ss p h)

-- a walk leads from segments to segments
pub walk_all : (from : List (List ℕ)) (parts : List (List ℕ)) (ss : List (List ℕ)) → list_all is_segment from ≡ true → walk (Some from) parts ≡ Some ss → list_all is_segment ss ≡ true
walk_all from parts ss h e = let k = walk_keeps (Some from) parts h in rw e at k

-- what a name leads to is a path
pub joined_is_path :
    (folder text : List ℕ) (at parts to : List (List ℕ)) → IsPath folder → at ≡ segments_of folder → walk (Some at) parts ≡ Some to
    → text ≡ text_of to → length text ≤ 1024 → IsPath text
joined_is_path folder text at parts to h e w t short =
    rw t (text_is_path to (walk_all at parts to (rw e (segments_all folder h)) w) (rw (sym t) short))
