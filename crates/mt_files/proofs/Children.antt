-- The paths below a folder: their segments, and the child through which each leads.
use Rattle.std.proofs.Common.{◌≡◌, ◌<◌, ◌≤◌, ◌-◌, ◌∙◌, ◌==◌, arith, suc, ℕ, Bool, true, false, cond, not, List, [], ◌∷◌, ◌++◌, length, take, filter, Some, None, refl, sym, ap, subst, nat_lt, append_assoc, length-append}
use Rattle.std.specs.List.{list_all, onto_first, starts_with}
use Rattle.std.specs.Bool.{nat_eq}
use Rattle.std.proofs.lemmas.Bool.{and_parts, and_from}
use Rattle.std.proofs.lemmas.Grind.{common_steps}
use Rattle.std.proofs.lemmas.List.Elements.{filter-append}
use Rattle.std.proofs.lemmas.List.Folds.{list_all-append}
use Rattle.std.proofs.lemmas.List.Splits.{length-slice_split, slice_split-cons_no, slice_split-cons_yes}
use Rattle.mt_path.specs.Segments.{is_segment, parts_of, segments_of, text_of}
use Rattle.mt_path.specs.Parse.{IsPath, bounded}
use Rattle.mt_path.specs.Names.{is_root, without_last}
use Rattle.mt_path.specs.Children.{child_of, prefix_of}
use Rattle.mt_path.proofs.Splits.{split_between}
use Rattle.mt_path.proofs.Paths.{all_from_none_bad, bytes_of, path_parts, split_last}
use Rattle.mt_path.proofs.Folders.{filter_same}
use Rattle.mt_path.proofs.Segments.{path_short}
use Rattle.mt_path.proofs.Children.{child_is_path, child_text}
use Rattle.mt_io.specs.declared.folder.NamedKind.TheVariants.{File, Folder}
use Rattle.mt_io.specs.Files.{first_of, is_below, kind_of, rest_of}
use Rattle.mt_io.proofs.Rests.{below_front, bytes_same, first_no, first_yes, rest_parts, same_bytes}
use Rattle.mt_files.specs.Search.{are_open, is_hidden, is_met}

pub not_true : (b : Bool) → not b ≡ true → b ≡ false
not_true true h = cc
not_true false h = refl

-- a folder's prefix is a text and a `/`
front_of : (folder : List ℕ) → (front : List ℕ) × (prefix_of folder ≡ front ++ 47 ∷ []) × (segments_of front ≡ segments_of folder)
front_of folder =
    elim (is_root folder) as (λ b. is_root folder ≡ b → (front : List ℕ) × (cond b folder (folder ++ 47 ∷ []) ≡ front ++ 47 ∷ []) × (segments_of front ≡ segments_of folder)) [
      | true ↦ λ e. let is : folder ≡ 47 ∷ [] = same_bytes folder (47 ∷ []) e in ([], is, rw is refl)
      | false ↦ λ e. (folder, refl, refl)
    ] refl

-- the parts of a text after a front and a `/` are segments in a path
tail_parts : (c : ℕ) (xs : List ℕ) → 0 < length xs → IsPath (c ∷ xs) → list_all is_segment (parts_of xs) ≡ true
tail_parts c [] some h = absurd (omega arith)
tail_parts c (x ∷ xs) some h = all_from_none_bad (parts_of (x ∷ xs)) (path_parts c x xs h).1

some_after : (front rest : List ℕ) → 0 < length (front ++ 47 ∷ rest)
some_after [] rest = omega arith
some_after (c ∷ front) rest = omega arith

rest_parts_of : (front rest : List ℕ) → 0 < length rest → IsPath (front ++ 47 ∷ rest) → list_all is_segment (parts_of rest) ≡ true
rest_parts_of [] rest some h = tail_parts 47 rest some h
rest_parts_of (c ∷ front) rest some h =
    let all = tail_parts c (front ++ 47 ∷ rest) (some_after front rest) h in
    let both = rw (split_between 47 front rest, list_all-append is_segment (parts_of front) (parts_of rest)) at all in
    (and_parts (list_all is_segment (parts_of front)) (list_all is_segment (parts_of rest)) both).1

-- ---- the first part of a rest

-- a rest with no `/` is its own first part
pub file_rest : (rest : List ℕ) → kind_of rest ≡ File → ((first_of rest).name ≡ rest) × (parts_of rest ≡ rest ∷ [])
file_rest [] h = (refl, refl)
file_rest (b ∷ bs) h =
    elim (b == 47) as (λ t. (b == 47) ≡ t → ((first_of (b ∷ bs)).name ≡ b ∷ bs) × (parts_of (b ∷ bs) ≡ (b ∷ bs) ∷ [])) [
      | true ↦ λ e. let f = ap (λ n. n.kind) (first_yes b bs e) in cc
      | false ↦ λ e.
          let f = first_no b bs e in
          let p = file_rest bs (sym (ap (λ n. n.kind) f) ∙ h) in
          (ap (λ n. n.name) f ∙ ap (λ x. b ∷ x) p.0, slice_split-cons_no (λ x. x == 47) b bs e ∙ ap (onto_first b) p.1)
    ] refl

-- a rest with a `/` is its first part, the `/` and more
pub folder_rest : (rest : List ℕ) → kind_of rest ≡ Folder → (more : List ℕ) × (rest ≡ (first_of rest).name ++ 47 ∷ more) × (parts_of rest ≡ (first_of rest).name ∷ parts_of more)
folder_rest [] h = cc
folder_rest (b ∷ bs) h =
    elim (b == 47) as (λ t. (b == 47) ≡ t → (more : List ℕ) × (b ∷ bs ≡ (first_of (b ∷ bs)).name ++ 47 ∷ more) × (parts_of (b ∷ bs) ≡ (first_of (b ∷ bs)).name ∷ parts_of more)) [
      | true ↦ λ e.
          let n = ap (λ c. c.name) (first_yes b bs e) in
          let is : b ≡ 47 = grind arith in
          (bs, ap (λ x. x ∷ bs) is ∙ ap (λ x. x ++ 47 ∷ bs) (sym n), slice_split-cons_yes (λ x. x == 47) b bs e ∙ ap (λ x. x ∷ parts_of bs) (sym n))
      | false ↦ λ e.
          let f = first_no b bs e in
          let n = ap (λ c. c.name) f in
          let p = folder_rest bs (sym (ap (λ c. c.kind) f) ∙ h) in
          (p.0, ap (λ x. b ∷ x) p.1 ∙ ap (λ x. x ++ 47 ∷ p.0) (sym n), slice_split-cons_no (λ x. x == 47) b bs e ∙ ap (onto_first b) p.2 ∙ ap (λ x. x ∷ parts_of p.0) (sym n))
    ] refl

-- ---- the segments of a path below a folder

segments_below : (place rest : List ℕ) → segments_of (prefix_of place ++ rest) ≡ segments_of place ++ segments_of rest
segments_below place rest =
    let f = front_of place in
    ap (λ x. segments_of (x ++ rest)) f.1
    ∙ ap segments_of (append_assoc f.0 (47 ∷ []) rest)
    ∙ ap (filter (λ s. not (length s == 0))) (split_between 47 f.0 rest)
    ∙ filter-append (λ s. not (length s == 0)) (parts_of f.0) (parts_of rest)
    ∙ ap (λ x. x ++ segments_of rest) f.2

parts_below : (place path rest : List ℕ) → IsPath path → rest_of (prefix_of place) path ≡ Some rest → list_all is_segment (parts_of rest) ≡ true
parts_below place path rest h e =
    let f = front_of place in
    let p = rest_parts (prefix_of place) path rest e in
    let is : path ≡ f.0 ++ 47 ∷ rest = p.0 ∙ ap (λ x. x ++ rest) f.1 ∙ append_assoc f.0 (47 ∷ []) rest in
    rest_parts_of f.0 rest p.1 (subst IsPath is h)

prefix_some : (place : List ℕ) → 0 < length (prefix_of place)
prefix_some place = let f = front_of place in subst (λ x. 0 < length x) (sym f.1) (some_after f.0 [])

segment_some : (name : List ℕ) → is_segment name ≡ true → 0 < length name
segment_some [] h = cc
segment_some (b ∷ bs) h = omega arith

segment_parts : (name : List ℕ) → is_segment name ≡ true → segments_of name ≡ name ∷ []
segment_parts name h = ap (filter (λ s. not (length s == 0))) (split_last name (bytes_of name h)) ∙ filter_same (name ∷ []) (and_from (is_segment name) true h refl)

short_bound : (x : List ℕ) → length x ≤ 1024 → bounded x ≡ Some x
short_bound x h = let e : nat_lt 1024 (length x) ≡ false = grind arith in rw e refl

bound_by : (x q : List ℕ) (b : Bool) → nat_lt 1024 (length x) ≡ b → cond b None (Some x) ≡ Some q → (x ≡ q) × (length x ≤ 1024)
bound_by x q true e h = cc
bound_by x q false e h = (cc, grind arith)

-- the path of a child, where the name is a segment and the path is short enough
child_made : (place name : List ℕ) → IsPath place → is_segment name ≡ true → length (prefix_of place ++ name) ≤ 1024 → child_of place name ≡ Some (prefix_of place ++ name)
child_made place name h seg short = rw (seg, child_text place name h) (short_bound (prefix_of place ++ name) short)

child_by : (place name q : List ℕ) (b : Bool) → IsPath place → is_segment name ≡ b → cond b (bounded (text_of (segments_of place ++ name ∷ []))) None ≡ Some q → (is_segment name ≡ true) × (q ≡ prefix_of place ++ name) × IsPath q
child_by place name q false h seg e = cc
child_by place name q true h seg e =
    let b = bound_by (text_of (segments_of place ++ name ∷ [])) q (nat_lt 1024 (length (text_of (segments_of place ++ name ∷ [])))) refl e in
    let t = child_text place name h in
    let is : q ≡ prefix_of place ++ name = sym b.0 ∙ t in
    let short : length (prefix_of place ++ name) ≤ 1024 = subst (λ x. length x ≤ 1024) t b.1 in
    (seg, is, subst IsPath (sym is) (child_is_path place name h seg short))

-- what a child's path is
pub child_parts : (place name q : List ℕ) → IsPath place → child_of place name ≡ Some q → (is_segment name ≡ true) × (q ≡ prefix_of place ++ name) × IsPath q
child_parts place name q h e = child_by place name q (is_segment name) h refl e

child_segments : (place name : List ℕ) → is_segment name ≡ true → segments_of (prefix_of place ++ name) ≡ segments_of place ++ name ∷ []
child_segments place name seg = segments_below place name ∙ ap (λ x. segments_of place ++ x) (segment_parts name seg)

root_by : (q : List ℕ) (b : Bool) → is_root q ≡ b → 1 < length q → is_root q ≡ false
root_by q false e h = e
root_by q true e h = let is = ap length (same_bytes q (47 ∷ []) e) in absurd (omega arith)

child_longer : (place name : List ℕ) → is_segment name ≡ true → 1 < length (prefix_of place ++ name)
child_longer place name seg = let a = prefix_some place in let b = segment_some name seg in omega (arith, length-append (prefix_of place) name)

child_no_root : (place name : List ℕ) → is_segment name ≡ true → is_root (prefix_of place ++ name) ≡ false
child_no_root place name seg = root_by (prefix_of place ++ name) (is_root (prefix_of place ++ name)) refl (child_longer place name seg)

-- ---- the child through which a path leads

-- to a file leads its own path
pub file_child : (place path rest : List ℕ) → IsPath place → IsPath path → rest_of (prefix_of place) path ≡ Some rest → kind_of rest ≡ File → child_of place (first_of rest).name ≡ Some path
file_child place path rest h k e file =
    let f = file_rest rest file in
    let p = rest_parts (prefix_of place) path rest e in
    let all = rw f.1 at (parts_below place path rest k e) in
    let seg : is_segment rest ≡ true = (and_parts (is_segment rest) true all).0 in
    let short : length (prefix_of place ++ rest) ≤ 1024 = subst (λ x. length x ≤ 1024) p.0 (path_short path k) in
    ap (child_of place) f.0 ∙ child_made place rest h seg short ∙ ap Some (sym p.0)

front_open : (xs : List (List ℕ)) (n m : List ℕ) (ms : List (List ℕ)) → are_open (without_last (xs ++ n ∷ m ∷ ms)) ≡ true → is_hidden n ≡ false
front_open [] n m ms h =
    let e : length (n ∷ m ∷ ms) - 1 ≡ suc (length ms) = omega arith in
    let k = rw e at h in
    not_true (is_hidden n) (and_parts (not (is_hidden n)) (are_open (take (length ms) (m ∷ ms))) k).0
front_open (x ∷ xs) n m ms h =
    let e : length (x ∷ (xs ++ n ∷ m ∷ ms)) - 1 ≡ suc (length (xs ++ n ∷ m ∷ ms) - 1) = omega (arith, length-append xs (n ∷ m ∷ ms)) in
    let k = rw e at h in
    front_open xs n m ms (and_parts (not (is_hidden x)) (are_open (without_last (xs ++ n ∷ m ∷ ms))) k).1

open_first : (xs : List (List ℕ)) (n : List ℕ) (ms : List (List ℕ)) → 0 < length ms → are_open (without_last (xs ++ n ∷ ms)) ≡ true → is_hidden n ≡ false
open_first xs n [] some h = absurd (omega arith)
open_first xs n (m ∷ ms) some h = front_open xs n m ms h

more_some : (more : List ℕ) → list_all is_segment (parts_of more) ≡ true → 0 < length more
more_some [] h = cc
more_some (b ∷ bs) h = omega arith

-- to a folder lead the paths below its path, and it is not hidden on the way of a path that is met
pub folder_child :
    (place path rest : List ℕ) → IsPath place → IsPath path → are_open (without_last (segments_of path)) ≡ true → rest_of (prefix_of place) path ≡ Some rest → kind_of rest ≡ Folder
    → (q : List ℕ) × (child_of place (first_of rest).name ≡ Some q) × (is_hidden (first_of rest).name ≡ false) × (is_below (prefix_of q) path ≡ true)
folder_child place path rest h k opened e folder =
    let name = (first_of rest).name in
    let f = folder_rest rest folder in
    let more = f.0 in
    let p = rest_parts (prefix_of place) path rest e in
    let all = rw f.2 at (parts_below place path rest k e) in
    let both = and_parts (is_segment name) (list_all is_segment (parts_of more)) all in
    let q = prefix_of place ++ name in
    let is : path ≡ (q ++ 47 ∷ []) ++ more = p.0 ∙ ap (λ x. prefix_of place ++ x) f.1 ∙ sym (append_assoc (prefix_of place) name (47 ∷ more)) ∙ sym (append_assoc q (47 ∷ []) more) in
    let shorter : length q ≤ length path = subst (λ x. length q ≤ length x) (sym is) (omega (arith, length-append (q ++ 47 ∷ []) more, length-append q (47 ∷ []))) in
    let short : length q ≤ 1024 = let l = path_short path k in omega arith in
    let segs : segments_of path ≡ segments_of place ++ name ∷ parts_of more =
    ap segments_of p.0 ∙ segments_below place rest ∙ ap (λ x. segments_of place ++ filter (λ s. not (length s == 0)) x) f.2 ∙ ap (λ x. segments_of place ++ x) (filter_same (name ∷ parts_of more) all) in
    let shown = open_first (segments_of place) name (parts_of more) (omega (arith, length-slice_split (λ b. b == 47) more)) (rw segs at opened) in
    let below : is_below (q ++ 47 ∷ []) path ≡ true = subst (λ x. is_below (q ++ 47 ∷ []) x ≡ true) (sym is) (below_front (q ++ 47 ∷ []) more (more_some more both.1)) in
    (q, child_made place name h both.0 short, shown, rw (child_no_root place name both.0) below)

-- ---- what a child of an open folder is

init_push : (xs : List (List ℕ)) (n : List ℕ) → without_last (xs ++ n ∷ []) ≡ xs
init_push xs n = let e : length (xs ++ n ∷ []) - 1 ≡ length xs = omega (arith, length-append xs (n ∷ [])) in rw e (grind (arith, common_steps))

-- a file in it is met
pub child_file_met : (place name q : List ℕ) → IsPath place → are_open (segments_of place) ≡ true → child_of place name ≡ Some q → is_met q ≡ true
child_file_met place name q h opened e =
    let c = child_parts place name q h e in
    let segs : segments_of q ≡ segments_of place ++ name ∷ [] = ap segments_of c.1 ∙ child_segments place name c.0 in
    let root : is_root q ≡ false = ap is_root c.1 ∙ child_no_root place name c.0 in
    rw (c.2, root, segs, init_push (segments_of place) name) opened

-- a folder in it that is not hidden is open
pub child_open : (place name q : List ℕ) → IsPath place → are_open (segments_of place) ≡ true → child_of place name ≡ Some q → is_hidden name ≡ false → are_open (segments_of q) ≡ true
child_open place name q h opened e shown =
    let c = child_parts place name q h e in
    let segs : segments_of q ≡ segments_of place ++ name ∷ [] = ap segments_of c.1 ∙ child_segments place name c.0 in
    rw (segs, list_all-append (λ s. not (is_hidden s)) (segments_of place) (name ∷ []), opened, shown) refl

-- ---- a folder that is named is there

starts_front : (x y : List ℕ) → starts_with nat_eq (x ++ y) x ≡ true
starts_front x y = let t : take (length x) (x ++ y) ≡ x = grind (arith, common_steps) in rw (t, bytes_same x) refl

-- a path that leads through a folder's child begins with the child's prefix
pub begins_in : (place path rest q : List ℕ) → IsPath place → rest_of (prefix_of place) path ≡ Some rest → kind_of rest ≡ Folder → child_of place (first_of rest).name ≡ Some q → starts_with nat_eq path (prefix_of q) ≡ true
begins_in place path rest q h e folder made =
    let name = (first_of rest).name in
    let f = folder_rest rest folder in
    let c = child_parts place name q h made in
    let root : is_root q ≡ false = ap is_root c.1 ∙ child_no_root place name c.0 in
    let is : path ≡ (q ++ 47 ∷ []) ++ f.0 =
    (rest_parts (prefix_of place) path rest e).0
    ∙ ap (λ x. prefix_of place ++ x) f.1
    ∙ sym (append_assoc (prefix_of place) name (47 ∷ f.0))
    ∙ ap (λ x. x ++ 47 ∷ f.0) (sym c.1)
    ∙ sym (append_assoc q (47 ∷ []) f.0) in
    rw root (subst (λ x. starts_with nat_eq x (q ++ 47 ∷ []) ≡ true) (sym is) (starts_front (q ++ 47 ∷ []) f.0))
