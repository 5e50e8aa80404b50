-- The text of segments has these segments, and a prefix of a path's segments is a path.
use Rattle.std.proofs.Common.{arith, false, ◌≡◌, ◌≤◌, ◌-◌, ◌==◌, not, ℕ, zero, suc, List, [], ◌∷◌, length, take, filter, sym, ap, refl, ◌∙◌, length-append}
use Rattle.mt_path.specs.Segments.{AreSegments, segments_of, text_of}
use Rattle.mt_path.specs.Parse.{IsPath}
use Rattle.mt_path.specs.Names.{folder_of, is_root, without_last}
use Rattle.mt_path.proofs.Paths.{parts_after, path_parts, segments_all, take_keeps, text_is_path}
use Rattle.mt_path.proofs.Folders.{filter_same, slashed, text_of_segments}

-- the segments of the text of segments
pub segments_of_text : (ss : List (List ℕ)) → AreSegments ss → segments_of (text_of ss) ≡ ss
segments_of_text [] h = refl
segments_of_text (s ∷ ss) h = ap (filter (λ x. not (length x == 0))) (parts_after s ss h) ∙ filter_same (s ∷ ss) h

-- a path's text is no longer than it may be
pub path_short : (text : List ℕ) → IsPath text → length text ≤ 1024
path_short [] h = omega arith
path_short (c ∷ rest) h = grind arith

slashed_take : (n : ℕ) (ss : List (List ℕ)) → length (slashed (take n ss)) ≤ length (slashed ss)
slashed_take zero ss = omega arith
slashed_take (suc n) [] = omega arith
slashed_take (suc n) (s ∷ ss) =
    omega (arith, slashed_take n ss, length-append s (slashed (take n ss)), length-append s (slashed ss))

slashed_short : (ss : List (List ℕ)) → length (slashed ss) ≤ length (text_of ss)
slashed_short [] = omega arith
slashed_short (s ∷ ss) = omega arith

text_short : (ss : List (List ℕ)) (most : ℕ) → 1 ≤ most → length (slashed ss) ≤ most → length (text_of ss) ≤ most
text_short [] most one h = one
text_short (s ∷ ss) most one h = h

-- the first of a path's segments are a path
pub prefix_is_path : (n : ℕ) (text : List ℕ) → IsPath text → IsPath (text_of (take n (segments_of text)))
prefix_is_path n text h =
    let whole = ap length (text_of_segments text h) in
    let short = path_short text h in
    text_is_path (take n (segments_of text)) (take_keeps n (segments_of text) (segments_all text h))
    (text_short (take n (segments_of text)) 1024 (omega arith) (omega (arith, slashed_take n (segments_of text), slashed_short (segments_of text), whole, short)))

-- the folder of a path is a path
pub folder_is_path : (text : List ℕ) → IsPath text → IsPath (folder_of text)
folder_is_path text h = prefix_is_path (length (segments_of text) - 1) text h

-- the segments of a path's folder
pub segments_of_folder : (text : List ℕ) → IsPath text → segments_of (folder_of text) ≡ without_last (segments_of text)
segments_of_folder text h =
    segments_of_text (without_last (segments_of text)) (take_keeps (length (segments_of text) - 1) (segments_of text) (segments_all text h))

some_segments : (ss : List (List ℕ)) (c b : ℕ) (bs : List ℕ) → text_of ss ≡ c ∷ b ∷ bs → (length ss == 0) ≡ false
some_segments [] c b bs h = let e = ap length h in grind arith
some_segments (s ∷ ss) c b bs h = grind arith

-- the root is the path with no segments
pub is_root_by_segments : (text : List ℕ) → IsPath text → is_root text ≡ (length (segments_of text) == 0)
is_root_by_segments [] h = grind arith
is_root_by_segments (c ∷ []) h = let e : c ≡ 47 = grind arith in rw e refl
is_root_by_segments (c ∷ b ∷ bs) h =
    let e = (path_parts c b bs h).0 in
    let s = some_segments (segments_of (c ∷ b ∷ bs)) c b bs (text_of_segments (c ∷ b ∷ bs) h) in
    let r : is_root (c ∷ b ∷ bs) ≡ false = rw e refl in
    r ∙ sym s
