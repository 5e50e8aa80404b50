-- The entries that a line names.
use Rattle.std.proofs.Common.{◌≡◌, ◌≤◌, ◌∙◌, ℕ, List, [], ◌∷◌, length, map, Bool, true, false, cond, is_some, Option, Some, None, refl, ap, sym, subst, arith, codes}
use Rattle.std.specs.List.{AllByRecursion, IsDistinct, cons_option, filter_map}
use Rattle.std.specs.Option.{option_and_then}
use Rattle.std.specs.Result.{result_ok}
use Rattle.std.specs.Str.{bytes_eq}
use Rattle.std.proofs.lemmas.List.{length-map}
use Rattle.std.proofs.lemmas.List.Elements.{All-from_recursion, recursion_from_All}
use Rattle.mt_path.specs.Names.{is_root}
use Rattle.mt_path.specs.Parse.{parsed}
use Rattle.mt_words.specs.Entries.{entry_of, rooted}
use Rattle.mt_words.specs.Lines.{AreEntries as AreNames, ArePositionals}
use Rattle.mt_words.specs.Values.{is_odd}
use Rattle.mt_words.specs.declared.table.Usage.{Usage}
use Rattle.mt_words.specs.declared.table.Usage.TheVariants.{Build, Replay}
use Rattle.mt_words.specs.declared.words.Words.{Words}
use Rattle.mt_words.proofs.Fronts.{entry_rooted, passed_on, two_steps}
use Rattle.mt_request.specs.Asks.{AreEntries}
use Rattle.mt_request.specs.Requests.{AreSaid}
use Rattle.mt_request.proofs.Bounds.{Uses, uses}

-- a value that a failed test lets through
passed : {X : Type 0} (b : Bool) (x y : X) → cond b None (Some x) ≡ Some y → (b ≡ false) × (x ≡ y)
passed false x y h = (refl, cc)
passed true x y h = cc

-- an entry isn't the root
entry_below : (word path : List ℕ) → entry_of word ≡ Some path → is_root path ≡ false
unfolding entry_of
entry_below word path h =
    let o = passed_on (is_odd word) (option_and_then (λ p. cond (is_root p) None (Some p)) (result_ok (parsed (rooted word)))) path h in
    let p = two_steps (λ p. cond (is_root p) None (Some p)) (result_ok (parsed (rooted word))) path o.1 in
    let q = passed (is_root p.0) p.0 path p.2 in
    ap is_root (sym q.1) ∙ q.0

some_of : {X : Type 0} (o : Option X) → is_some o ≡ true → (x : X) × (o ≡ Some x)
some_of None h = cc
some_of (Some x) h = (x, refl)

-- entries that the words name
abbrev Names : List (List ℕ) → Type 0
Names words = AllByRecursion (λ word. is_some (entry_of word) ≡ true) words

more_rooted : (word : List ℕ) (paths : List (List ℕ)) (entry : Option (List ℕ)) → is_some entry ≡ true → entry_of word ≡ entry → cons_option entry paths ≡ rooted word ∷ paths
more_rooted word paths None h e = cc
more_rooted word paths (Some path) h e = ap (λ p. p ∷ paths) (entry_rooted word path e)

-- where each word names an entry, no entry is lost
pub all_rooted : (words : List (List ℕ)) → AllByRecursion (λ word. is_some (entry_of word) ≡ true) words → filter_map entry_of words ≡ map rooted words
all_rooted [] h = refl
all_rooted (word ∷ words) h = more_rooted word (filter_map entry_of words) (entry_of word) h.0 refl ∙ ap (λ ps. rooted word ∷ ps) (all_rooted words h.1)

more_below : (word : List ℕ) (paths : List (List ℕ)) (entry : Option (List ℕ)) → entry_of word ≡ entry → AllByRecursion (λ p. is_root p ≡ false) paths → AllByRecursion (λ p. is_root p ≡ false) (cons_option entry paths)
more_below word paths None e h = h
more_below word paths (Some path) e h = (entry_below word path e, h)

all_below : (words : List (List ℕ)) → AllByRecursion (λ p. is_root p ≡ false) (filter_map entry_of words)
all_below [] = tt
all_below (word ∷ words) = more_below word (filter_map entry_of words) (entry_of word) refl (all_below words)

entries_fit : (words : List (List ℕ)) → AreNames words → AreEntries (filter_map entry_of words)
entries_fit words h =
    let same = all_rooted words (recursion_from_All (λ word. is_some (entry_of word) ≡ true) words h.paths) in
    let count : length (filter_map entry_of words) ≡ length words = ap length same ∙ length-map words rooted in
    record {
      some = subst (λ n. 1 ≤ n) (sym count) h.some;
      most = subst (λ n. n ≤ 16) (sym count) h.few;
      distinct = subst (IsDistinct bytes_eq) (sym same) h.once;
      below = All-from_recursion (λ p. is_root p ≡ false) (filter_map entry_of words) (all_below words);
    }

builds : (usage : Usage) (words : List (List ℕ)) → ◌≡◌ {A = Option Usage} (Some Build) (Some usage) → ArePositionals usage words → AreNames words
builds usage words h fit = let own : usage ≡ Build = cc in subst (λ u. ArePositionals u words) own fit

replays : (usage : Usage) (words : List (List ℕ)) → ◌≡◌ {A = Option Usage} (Some Replay) (Some usage) → ArePositionals usage words → AreNames words
replays usage words h fit = let own : usage ≡ Replay = cc in subst (λ u. ArePositionals u words) own fit

names_by : (bundle deps check replay grow : Bool) (usage : Usage) (words : List (List ℕ)) → grow ≡ false → Uses bundle deps check replay grow usage → ArePositionals usage words → AreNames words
names_by true deps check replay grow usage words n h fit = builds usage words h fit
names_by false true check replay grow usage words n h fit = builds usage words h fit
names_by false false true replay grow usage words n h fit = builds usage words h fit
names_by false false false true grow usage words n h fit = replays usage words h fit
names_by false false false false true usage words n h fit = absurd (cc)
names_by false false false false false usage words n h fit = absurd (cc)

-- the positionals of a command that builds
pub names_said : (words : Words) → AreSaid words → bytes_eq words.command (codes "grow") ≡ false → AreNames words.positionals
names_said words said other =
    let l = said.says in
    names_by _ _ _ _ _ l.usage words.positionals other (uses words.command l.usage l.command) l.fit

-- the entries of a line are those of a build
pub entries_said : (words : Words) → AreSaid words → bytes_eq words.command (codes "grow") ≡ false → AreEntries (filter_map entry_of words.positionals)
entries_said words said other = entries_fit words.positionals (names_said words said other)

-- and so is that of an input that is grown
one_distinct : (entry : List ℕ) → IsDistinct bytes_eq (entry ∷ [])
unfolding IsDistinct
one_distinct entry = (tt, tt)

pub grown_fits : AreEntries (codes "/m0.js" ∷ [])
grown_fits = record { some = omega arith; most = omega arith; distinct = one_distinct (codes "/m0.js"); below = All-from_recursion (λ p. is_root p ≡ false) (codes "/m0.js" ∷ []) (refl, tt) }
