-- The lines of commands: they have no line feed, are short, are UTF-8, and are the heads of their commands.
use Rattle.std.proofs.Common.{◌≡◌, ◌<◌, ◌≤◌, ◌^◌, ◌==◌, ◌&&◌, not, Bool, true, false, ltb, refl, List, ℕ, [], ◌∷◌, ◌++◌, length, sym, ap, ◌∙◌, arith, codes, length-append, lit<, lit≤, Some}
use Rattle.std.specs.Char.{is_ascii_digit}
use Rattle.std.specs.Fmt.{decimal}
use Rattle.std.specs.List.{flat_map, list_all}
use Rattle.std.specs.Str.{IsUtf8, is_utf8}
use Rattle.std.proofs.lemmas.Bool.{and_parts, and_from, not-true, ltb-false, ne_eqb}
use Rattle.std.proofs.lemmas.Bool.Decides.{nat_tests}
use Rattle.std.proofs.lemmas.Fmt.{digits_decimal, IsAscii-decimal, length-decimal-le}
use Rattle.std.proofs.lemmas.List.Folds.{list_all-append}
use Rattle.std.proofs.lemmas.Str.{IsUtf8-append, IsUtf8-from_ascii, IsUtf8-from_is_utf8, is_utf8-from_IsUtf8}
use Rattle.std.proofs.lemmas.Str.Ascii.{IsAscii-cons, IsAscii-nil}
use Rattle.mt_chars.proofs.Ascii.{word_ascii}
use Rattle.mt_path.specs.Names.{is_root}
use Rattle.mt_path.specs.Parse.{IsPath}
use Rattle.mt_path.specs.Segments.{is_segment, is_segment_byte, segments_of, text_of}
use Rattle.mt_path.proofs.Folders.{text_of_segments}
use Rattle.mt_path.proofs.Segments.{path_short}
use Rattle.mt_path.proofs.Paths.{bytes_of, segments_all}
use Rattle.mt_script.specs.Commands.{IsCommand, IsPathText, line_text, put_line}
use Rattle.mt_script.specs.Heads.{file_path, head_of, put_of}
use Rattle.mt_script.specs.declared.command.Command.{Command}
use Rattle.mt_script.specs.declared.command.Command.TheVariants.{Put, Del, Rescan, Build, End}
use Rattle.mt_script.specs.declared.command_head.CommandHead.{CommandHead}
use Rattle.mt_script.specs.declared.command_head.CommandHead.TheVariants as head
use Rattle.mt_script.proofs.LastBlanks.{cut_here, has_no_blank, none_cut}
use Rattle.mt_script.proofs.Sizes.{own, size_of_decimal}
use Rattle.mt_script.proofs.Heads.{put_parts, utf8_head}

-- no byte is a line feed
abbrev pub has_no_feed : List ℕ → Bool
has_no_feed bs = list_all (λ b. not (b == 10)) bs

byte_no_feed : (b : ℕ) → is_segment_byte b ≡ true → not (b == 10) ≡ true
byte_no_feed b h =
    let low = and_parts (not (ltb b 32)) (not (b == 127)) (and_parts (not (ltb b 32) && not (b == 127)) (not (b == 47)) h).0 in
    let many = ltb-false b 32 (not-true (ltb b 32) low.0) in
    ap not (ne_eqb b 10 (λ e. omega arith))

segment_no_feed : (s : List ℕ) → list_all is_segment_byte s ≡ true → has_no_feed s ≡ true
segment_no_feed [] h = refl
segment_no_feed (b ∷ s) h =
    let p = and_parts (is_segment_byte b) (list_all is_segment_byte s) h in
    and_from (not (b == 10)) (has_no_feed s) (byte_no_feed b p.0) (segment_no_feed s p.1)

segments_no_feed : (ss : List (List ℕ)) → list_all is_segment ss ≡ true → has_no_feed (flat_map (λ x. 47 ∷ x) ss) ≡ true
segments_no_feed [] h = refl
segments_no_feed (s ∷ ss) h =
    let p = and_parts (is_segment s) (list_all is_segment ss) h in
    list_all-append (λ b. not (b == 10)) (47 ∷ s) (flat_map (λ x. 47 ∷ x) ss)
    ∙ and_from (has_no_feed s) (has_no_feed (flat_map (λ x. 47 ∷ x) ss)) (segment_no_feed s (bytes_of s p.0)) (segments_no_feed ss p.1)

text_no_feed : (ss : List (List ℕ)) → list_all is_segment ss ≡ true → has_no_feed (text_of ss) ≡ true
text_no_feed [] h = refl
text_no_feed (s ∷ ss) h = segments_no_feed (s ∷ ss) h

-- a path has no line feed
pub path_no_feed : (text : List ℕ) → IsPath text → has_no_feed text ≡ true
path_no_feed text h = ap has_no_feed (sym (text_of_segments text h)) ∙ text_no_feed (segments_of text) (segments_all text h)

digit_no_feed : (d : ℕ) → is_ascii_digit d ≡ true → not (d == 10) ≡ true
digit_no_feed d h = grind (arith, nat_tests)

digit_no_blank : (d : ℕ) → is_ascii_digit d ≡ true → not (d == 32) ≡ true
digit_no_blank d h = grind (arith, nat_tests)

-- digits are no line feeds and no blanks
digits_no_feed : (ds : List ℕ) → list_all is_ascii_digit ds ≡ true → has_no_feed ds ≡ true
digits_no_feed [] h = refl
digits_no_feed (d ∷ ds) h =
    let p = and_parts (is_ascii_digit d) (list_all is_ascii_digit ds) h in
    and_from (not (d == 10)) (has_no_feed ds) (digit_no_feed d p.0) (digits_no_feed ds p.1)

digits_no_blank : (ds : List ℕ) → list_all is_ascii_digit ds ≡ true → has_no_blank ds ≡ true
digits_no_blank [] h = refl
digits_no_blank (d ∷ ds) h =
    let p = and_parts (is_ascii_digit d) (list_all is_ascii_digit ds) h in
    and_from (not (d == 32)) (has_no_blank ds) (digit_no_blank d p.0) (digits_no_blank ds p.1)

-- the head of a command
abbrev pub head_for : Command → CommandHead
head_for (Put path bytes) = head.Put path (length bytes)
head_for command = head.Whole command

-- the line of a `put`
put_no_feed : (path : List ℕ) (n : ℕ) → IsPath path → n < 2 ^ 64 → has_no_feed (put_line path n) ≡ true
put_no_feed path n h small =
    list_all-append (λ b. not (b == 10)) path (32 ∷ decimal n)
    ∙ and_from (has_no_feed path) (has_no_feed (decimal n)) (path_no_feed path h) (digits_no_feed (decimal n) (digits_decimal own n small))

pub line_no_feed : (c : Command) → IsCommand c → has_no_feed (line_text c) ≡ true
line_no_feed (Put path bytes) h = put_no_feed path (length bytes) h.path.path (omega (arith, h.writable.1))
line_no_feed (Del path) h = path_no_feed path h.path.path
line_no_feed Rescan h = refl
line_no_feed Build h = refl
line_no_feed End h = refl

pub line_short : (c : Command) → IsCommand c → length (line_text c) ≤ 1100
line_short (Put path bytes) h =
    let short = path_short path h.path.path in
    let few = length-decimal-le 9 (length bytes) (omega arith) (omega (arith, h.writable.1)) (omega (arith, h.writable.1)) in
    omega (arith, length-append path (32 ∷ decimal (length bytes)))
line_short (Del path) h = let short = path_short path h.path.path in omega arith
line_short Rescan h = lit≤ tt
line_short Build h = lit≤ tt
line_short End h = lit≤ tt

ascii_prefix : (a b c : ℕ) (bs : List ℕ) → a < 128 → b < 128 → c < 128 → IsUtf8 bs → IsUtf8 (a ∷ b ∷ c ∷ 32 ∷ bs)
ascii_prefix a b c bs p q r u =
    IsUtf8-append (a ∷ b ∷ c ∷ 32 ∷ []) bs (IsUtf8-from_ascii (a ∷ b ∷ c ∷ 32 ∷ []) (IsAscii-cons a (b ∷ c ∷ 32 ∷ []) p (IsAscii-cons b (c ∷ 32 ∷ []) q (IsAscii-cons c (32 ∷ []) r (IsAscii-cons 32 [] (lit< tt) IsAscii-nil))))) u

put_utf8 : (path : List ℕ) (n : ℕ) → is_utf8 path ≡ true → n < 2 ^ 64 → is_utf8 (put_line path n) ≡ true
put_utf8 path n u small =
    is_utf8-from_IsUtf8 (put_line path n) (ascii_prefix 112 117 116 (path ++ 32 ∷ decimal n) (lit< tt) (lit< tt) (lit< tt)
    (IsUtf8-append path (32 ∷ decimal n) (IsUtf8-from_is_utf8 path u) (IsUtf8-from_ascii (32 ∷ decimal n) (IsAscii-cons 32 (decimal n) (lit< tt) (IsAscii-decimal n small)))))

del_utf8 : (path : List ℕ) → is_utf8 path ≡ true → is_utf8 (codes "del " ++ path) ≡ true
del_utf8 path u = is_utf8-from_IsUtf8 (codes "del " ++ path) (ascii_prefix 100 101 108 path (lit< tt) (lit< tt) (lit< tt) (IsUtf8-from_is_utf8 path u))

-- a path other than the root
path_found : (path : List ℕ) → IsPath path → is_root path ≡ false → file_path path ≡ Some path
path_found path h root = rw (h, root) refl

put_line_head : (path : List ℕ) (n : ℕ) → IsPathText path → is_root path ≡ false → n < 10 ^ 9 → head_of (put_line path n) ≡ Some (head.Put path n)
put_line_head path n h root small =
    let big : n < 2 ^ 64 = omega arith in
    let none = none_cut (decimal n) (digits_no_blank (decimal n) (digits_decimal own n big)) in
    utf8_head (put_line path n) (put_utf8 path n h.utf8 big)
    ∙ put_parts (path ++ 32 ∷ decimal n) path (decimal n) (cut_here path (decimal n) none)
    ∙ ap (λ s. put_of s (file_path path)) (size_of_decimal n small)
    ∙ ap (λ p. put_of (Some n) p) (path_found path h.path root)

del_line_head : (path : List ℕ) → IsPathText path → is_root path ≡ false → head_of (codes "del " ++ path) ≡ Some (head.Whole (Del path))
del_line_head path h root =
    utf8_head (codes "del " ++ path) (del_utf8 path h.utf8) ∙ rw (path_found path h.path root) refl

word_utf8 : (bs : List ℕ) → list_all (λ b. ltb b 128) bs ≡ true → is_utf8 bs ≡ true
word_utf8 bs h = is_utf8-from_IsUtf8 bs (IsUtf8-from_ascii bs (word_ascii bs h))

-- the line of a command is its head
pub line_head : (c : Command) → IsCommand c → head_of (line_text c) ≡ Some (head_for c)
line_head (Put path bytes) h = put_line_head path (length bytes) h.path h.writable.0 (omega (arith, h.writable.1))
line_head (Del path) h = del_line_head path h.path h.writable
line_head Rescan h = utf8_head (codes "rescan") (word_utf8 (codes "rescan") refl)
line_head Build h = utf8_head (codes "build") (word_utf8 (codes "build") refl)
line_head End h = utf8_head (codes "end") (word_utf8 (codes "end") refl)
