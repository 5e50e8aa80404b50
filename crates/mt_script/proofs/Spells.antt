-- A line that is the head of a command is spelled as that head.
use Rattle.std.proofs.Common.{◌≡◌, inl, inr, true, false, cond, refl, List, ℕ, [], ◌∷◌, ◌++◌, length, drop, get_or, sym, ap, subst, ◌∙◌, arith, codes, length-append, lit<, Option, Some, None, Result, Ok, Err, nat_eq}
use Rattle.std.specs.Fmt.{decimal}
use Rattle.std.specs.List.{starts_with}
use Rattle.std.specs.Result.{result_ok}
use Rattle.std.specs.Str.{IsUtf8, bytes_eq, is_utf8}
use Rattle.std.proofs.lemmas.Bool.Decides.{Decides-eqb}
use Rattle.std.proofs.lemmas.List.{take_at, get_or_at}
use Rattle.std.proofs.lemmas.Slice.Eq.{starts_is}
use Rattle.std.proofs.lemmas.Str.{IsCharBoundary-after_ascii, IsCharBoundary-before_ascii, IsUtf8-drop, IsUtf8-take, IsUtf8-from_is_utf8, is_utf8-from_IsUtf8}
use Rattle.mt_path.specs.Names.{is_root}
use Rattle.mt_path.specs.Parse.{IsPath, parsed}
use Rattle.mt_path.specs.declared.path.PathFault.{PathFault}
use Rattle.mt_script.specs.Commands.{IsCommand, after_line, line_text, put_line}
use Rattle.mt_script.specs.Heads.{around_last_blank, del_head, file_path, head_of, put_of, put_head, size_of, words_head}
use Rattle.mt_script.specs.Reads.{IsHead}
use Rattle.mt_script.specs.declared.command.Command.{Command}
use Rattle.mt_script.specs.declared.command.Command.TheVariants.{Del, Rescan, Build, End}
use Rattle.mt_script.specs.declared.command_head.CommandHead.{CommandHead}
use Rattle.mt_script.specs.declared.command_head.CommandHead.TheVariants as head
use Rattle.mt_script.proofs.LastBlanks.{cut_joined}
use Rattle.mt_script.proofs.Conditions.{chosen, one_step, passed, same_bytes, two_steps}
use Rattle.mt_script.proofs.Sizes.{decimal_of_size}

-- the line is that of the head
abbrev pub IsLineOf : List ℕ → CommandHead → Type 0
IsLineOf line (head.Whole command) = (line ≡ line_text command) × (after_line command ≡ [])
IsLineOf line (head.Put path size) = line ≡ put_line path size

-- a line that is a head
pub record Spells (line : List ℕ) (asked : CommandHead) : Type 0 where
  pub spelled : IsLineOf line asked
  pub names : IsHead asked

-- nothing is no head
nothing : (asked : CommandHead) → None ≡ Some asked → ⊥
nothing asked h = cc

-- the parts of a `put`
put_some : (s : Option ℕ) (p : Option (List ℕ)) (asked : CommandHead) → put_of s p ≡ Some asked → (size : ℕ) × (path : List ℕ) × (s ≡ Some size) × (p ≡ Some path) × (head.Put path size ≡ asked)
put_some None p asked h = cc
put_some (Some size) None asked h = cc
put_some (Some size) (Some path) asked h = (size, path, refl, refl, cc)

-- a text that is parsed is its own path
parsed_same : (text path : List ℕ) → parsed text ≡ Ok path → path ≡ text
parsed_same [] path h = cc
parsed_same (c ∷ []) path h = grind arith
parsed_same (c ∷ b ∷ bs) path h = grind arith

ok_of : (r : Result (List ℕ) PathFault) (path : List ℕ) → result_ok r ≡ Some path → r ≡ Ok path
ok_of (Ok p) path h = cc
ok_of (Err e) path h = cc

-- a file's path is the text itself
pub file_path_is : (text path : List ℕ) → file_path text ≡ Some path → (path ≡ text) × IsPath text × (is_root text ≡ false)
file_path_is text path h =
    let p = two_steps (λ p. cond (is_root p) None (Some p)) (result_ok (parsed text)) path h in
    let q = passed (is_root p.0) p.0 path p.2 in
    let e = ok_of (parsed text) p.0 p.1 in
    let same = parsed_same text p.0 e in
    (sym q.1 ∙ same, rw same at e, rw same at q.0)

-- what follows four bytes of which the last is ASCII
utf8_after : (a b c : ℕ) (bs : List ℕ) → IsUtf8 (a ∷ b ∷ c ∷ 32 ∷ bs) → IsUtf8 bs
utf8_after a b c bs u = IsUtf8-drop (a ∷ b ∷ c ∷ 32 ∷ bs) 4 u (IsCharBoundary-after_ascii (a ∷ b ∷ c ∷ 32 ∷ bs) 3 u (omega arith) (lit< tt))

-- what is before a blank
utf8_before : (path more : List ℕ) → IsUtf8 (path ++ 32 ∷ more) → IsUtf8 path
utf8_before path more u =
    let l = length-append path (32 ∷ more) in
    let here : get_or (path ++ 32 ∷ more) (length path) 0 ≡ 32 = get_or_at path 32 more 0 (length path) refl in
    let prefix = IsUtf8-take (path ++ 32 ∷ more) (length path) u (IsCharBoundary-before_ascii (path ++ 32 ∷ more) (length path) (omega arith) (omega arith)) in
    subst IsUtf8 (take_at path (32 ∷ more) (length path) refl) prefix

-- the line of a `del`
del_told : (text : List ℕ) (asked : CommandHead) → IsUtf8 (codes "del " ++ text) → del_head text ≡ Some asked → Spells (codes "del " ++ text) asked
del_told text asked u h =
    let p = one_step (λ path. head.Whole (Del path)) (file_path text) asked h in
    let q = file_path_is text p.0 p.1 in
    let e : head.Whole (Del text) ≡ asked = ap (λ path. head.Whole (Del path)) (sym q.0) ∙ p.2 in
    subst (Spells (codes "del " ++ text)) e (record {
      spelled = (refl, refl);
      names = record { path = record { path = q.1; utf8 = is_utf8-from_IsUtf8 text (utf8_after 100 101 108 text u) }; writable = q.2 };
    })

-- the line of a `put`
put_told : (text : List ℕ) (asked : CommandHead) → IsUtf8 (codes "put " ++ text) → put_head text ≡ Some asked → Spells (codes "put " ++ text) asked
unfolding put_head
put_told text asked u h =
    let p = two_steps (λ parts. put_of (size_of parts.1) (file_path parts.0)) (around_last_blank text) asked h in
    let joined = cut_joined text p.0 p.1 in
    let s = put_some (size_of p.0.1) (file_path p.0.0) asked p.2 in
    let path = file_path_is p.0.0 s.1 s.3 in
    let digits = decimal_of_size p.0.1 s.0 s.2 in
    let text_is : text ≡ p.0.0 ++ 32 ∷ decimal s.0 = joined ∙ ap (λ (ds : List ℕ). p.0.0 ++ 32 ∷ ds) (sym digits) in
    let e : head.Put p.0.0 s.0 ≡ asked = ap (λ (q : List ℕ). head.Put q s.0) (sym path.0) ∙ s.4 in
    let after = utf8_after 112 117 116 text u in
    let prefix = utf8_before p.0.0 (decimal s.0) (subst IsUtf8 text_is after) in
    subst (Spells (codes "put " ++ text)) e (record {
      spelled = ap (λ (xs : List ℕ). codes "put " ++ xs) text_is;
      names = (record { path = path.1; utf8 = is_utf8-from_IsUtf8 p.0.0 prefix }, path.2);
    })

-- a word
word_told : (line word : List ℕ) (d : Command) (asked : CommandHead) → bytes_eq line word ≡ true → Some (head.Whole d) ≡ Some asked → word ≡ line_text d → after_line d ≡ [] → IsCommand d → Spells line asked
word_told line word d asked same h text none command =
    let e : head.Whole d ≡ asked = cc in
    subst (Spells line) e (record { spelled = (same_bytes line word same ∙ text, none); names = command })

-- the words of a line
words_told : (line : List ℕ) (asked : CommandHead) → IsUtf8 line → words_head line ≡ Some asked → Spells line asked
words_told line asked u h =
    elim (chosen (bytes_eq line (codes "rescan")) _ _ (Some asked) h) [
      | inl p ↦ word_told line (codes "rescan") Rescan asked p.0 p.1 refl refl (record { path = tt; writable = tt })
      | inr p ↦ elim (chosen (bytes_eq line (codes "build")) _ _ (Some asked) p.1) [
        | inl q ↦ word_told line (codes "build") Build asked q.0 q.1 refl refl (record { path = tt; writable = tt })
        | inr q ↦ elim (chosen (bytes_eq line (codes "end")) _ _ (Some asked) q.1) [
          | inl r ↦ word_told line (codes "end") End asked r.0 r.1 refl refl (record { path = tt; writable = tt })
          | inr r ↦ elim (chosen (starts_with nat_eq line (codes "del ")) _ _ (Some asked) r.1) [
            | inl s ↦
                let whole : line ≡ codes "del " ++ drop 4 line = (starts_is Decides-eqb line (codes "del ") (starts_with nat_eq line (codes "del ")) refl).0 s.0 in
                subst (λ (xs : List ℕ). Spells xs asked) (sym whole) (del_told (drop 4 line) asked (subst IsUtf8 whole u) s.1)
            | inr s ↦ elim (chosen (starts_with nat_eq line (codes "put ")) _ _ (Some asked) s.1) [
              | inl t ↦
                  let whole : line ≡ codes "put " ++ drop 4 line = (starts_is Decides-eqb line (codes "put ") (starts_with nat_eq line (codes "put ")) refl).0 t.0 in
                  subst (λ (xs : List ℕ). Spells xs asked) (sym whole) (put_told (drop 4 line) asked (subst IsUtf8 whole u) t.1)
              | inr t ↦ absurd (nothing asked t.1)
            ]
          ]
        ]
      ]
    ]

-- a line that is a head is spelled so
pub told_by : (line : List ℕ) (asked : CommandHead) → head_of line ≡ Some asked → Spells line asked
unfolding head_of
told_by line asked h =
    elim (chosen (is_utf8 line) (words_head line) None (Some asked) h) [
      | inl p ↦ words_told line asked (IsUtf8-from_is_utf8 line p.0) p.1
      | inr p ↦ absurd (nothing asked p.1)
    ]
