-- The words of a line, read one after another.
use Rattle.std.proofs.Common.{◌≡◌, ◌<◌, ◌≤◌, ◌+◌, ◌∙◌, ℕ, List, [], ◌∷◌, ◌++◌, length, drop, get_or, min, true, false, cond, Option, Some, None, Result, Ok, Err, refl, ap, sym, arith}
use Rattle.std.specs.Option.{option_map_or}
use Rattle.std.proofs.lemmas.List.{at_drop_more, at_drop_all}
use Rattle.mt_words.specs.Fronts.{Front, is_whole, front_after, start}
use Rattle.mt_words.specs.Words.{line_of, read_from, told, words_by}
use Rattle.mt_words.specs.Tables.{commands, named}
use Rattle.mt_words.specs.declared.table.CommandSet.{CommandSet}
use Rattle.mt_words.specs.declared.table.Usage.{Usage}
use Rattle.mt_words.specs.declared.words.WordsFault.TheVariants.{Bad}

-- a word that is not bad
pub read_step : (n m i : ℕ) (f g : Front) (ws : List (List ℕ)) (w d : List ℕ) → m ≡ n + 1 → i < length ws → w ≡ get_or ws i d → Some g ≡ front_after f w → read_from m g (drop (i + 1) ws) ≡ read_from n f (drop i ws)
unfolding read_from
read_step n m i f g ws w d later within e h =
    let next : front_after f (get_or ws i d) ≡ Some g = sym (h ∙ ap (front_after f) e) in
    let more : read_from n f (get_or ws i d ∷ drop (i + 1) ws) ≡ read_from (n + 1) g (drop (i + 1) ws) = rw next refl in
    ap (λ k. read_from k g (drop (i + 1) ws)) later ∙ sym more ∙ sym (at_drop_more (read_from n f) ws i d within)

-- one that is
pub read_bad : (n i : ℕ) (f : Front) (ws : List (List ℕ)) (w d : List ℕ) → i < length ws → w ≡ get_or ws i d → None ≡ front_after f w → Err n ≡ read_from n f (drop i ws)
unfolding read_from
read_bad n i f ws w d within e h =
    let next : front_after f (get_or ws i d) ≡ None = sym (h ∙ ap (front_after f) e) in
    let more : read_from n f (get_or ws i d ∷ drop (i + 1) ws) ≡ Err n = rw next refl in
    sym more ∙ sym (at_drop_more (read_from n f) ws i d within)

-- no further word
pub read_end : (n i : ℕ) (f : Front) (ws : List (List ℕ)) → length ws ≤ i → cond (is_whole f) (Ok f) (Err n) ≡ read_from n f (drop i ws)
unfolding read_from
read_end n i f ws past = sym (at_drop_all (read_from n f) ws i past)

pub end_whole : (n i : ℕ) (f : Front) (ws : List (List ℕ)) → length ws ≤ i → true ≡ is_whole f → Ok f ≡ read_from n f (drop i ws)
end_whole n i f ws past h =
    let whole : is_whole f ≡ true = sym h in
    let ok : Ok f ≡ cond (is_whole f) (Ok f) (Err n) = rw whole refl in
    ok ∙ read_end n i f ws past

pub end_open : (n i : ℕ) (f : Front) (ws : List (List ℕ)) → length ws ≤ i → false ≡ is_whole f → Err n ≡ read_from n f (drop i ws)
end_open n i f ws past h =
    let whole : is_whole f ≡ false = sym h in
    let bad : Err n ≡ cond (is_whole f) (Ok f) (Err n) = rw whole refl in
    bad ∙ read_end n i f ws past

-- the same answer, as it is told
pub told_bad : (at n : ℕ) (r : Result Front ℕ) → at ≡ min n 4294967295 → Err n ≡ r → Err (Bad at) ≡ told r
told_bad at n r e h = ap (λ k. Err (Bad k)) e ∙ ap told h

pub told_ok : (f : Front) (r : Result Front ℕ) → Ok f ≡ r → Ok f ≡ told r
told_ok f r h = ap told h

-- the number of a word: the first is n
least_by : (n k : ℕ) (ws : List (List ℕ)) (o : Option Front) → ((g : Front) → read_from (n + 1) g ws ≡ Err k → (n + 1 ≤ k) × (k ≤ n + 1 + length ws)) → option_map_or (λ g. read_from (n + 1) g ws) o (Err n) ≡ Err k → (n ≤ k) × (k ≤ n + 1 + length ws)
least_by n k ws None ih h = let e : n ≡ k = cc in (omega (arith, e), omega (arith, e))
least_by n k ws (Some g) ih h = let p = ih g h in (omega (arith, p.0), omega (arith, p.1))

end_by : (n k : ℕ) (f : Front) (b : _) → cond b (Ok f) (Err n) ≡ Err k → n ≡ k
end_by n k f b h = grind arith

pub number_within : (n k : ℕ) (f : Front) (ws : List (List ℕ)) → read_from n f ws ≡ Err k → (n ≤ k) × (k ≤ n + length ws)
unfolding read_from
number_within n k f [] h = let e : n ≡ k = end_by n k f (is_whole f) h in (omega (arith, e), omega (arith, e))
number_within n k f (w ∷ ws) h =
    let p = least_by n k ws (front_after f w) (λ g e. number_within (n + 1) k g ws e) h in
    (p.0, omega (arith, p.1))

-- what stands after the first bad word does not matter
stays_by : (n k : ℕ) (o : Option Front) (xs ys : List (List ℕ)) → ((g : Front) → read_from (n + 1) g xs ≡ Err k → read_from (n + 1) g ys ≡ Err k) → option_map_or (λ g. read_from (n + 1) g xs) o (Err n) ≡ Err k → option_map_or (λ g. read_from (n + 1) g ys) o (Err n) ≡ Err k
stays_by n k None xs ys ih h = h
stays_by n k (Some g) xs ys ih h = ih g h

pub stays : (n k : ℕ) (f : Front) (ws back more : List (List ℕ)) → read_from n f (ws ++ back) ≡ Err k → k < n + length ws → read_from n f (ws ++ more) ≡ Err k
unfolding read_from
stays n k f [] back more h l = let p = number_within n k f back h in absurd (omega (arith, p.0, l))
stays n k f (w ∷ ws) back more h l = stays_by n k (front_after f w) (ws ++ back) (ws ++ more) (λ g e. stays (n + 1) k g ws back more e (omega (arith, l))) h

-- ---- of a whole line

pub told_by : (command : List ℕ) (r : Result Front ℕ) (k : ℕ) → words_by command r ≡ Err k → r ≡ Err k
told_by command (Ok g) k h = cc
told_by command (Err n) k h = cc

line_within_by : (command : List ℕ) (ws : List (List ℕ)) (o : Option Usage) (k : ℕ) → option_map_or (λ usage. words_by command (read_from 2 (start usage) ws)) o (Err 1) ≡ Err k → (1 ≤ k) × (k ≤ length ws + 2)
line_within_by command ws None k h = let e : 1 ≡ k = cc in (omega (arith, e), omega (arith, e))
line_within_by command ws (Some u) k h = let p = number_within 2 k (start u) ws (told_by command (read_from 2 (start u) ws) k h) in (omega (arith, p.0), omega (arith, p.1))

-- the number of the first bad word of a line, or the one after its last word
pub line_within : (set : CommandSet) (line : List (List ℕ)) (k : ℕ) → line_of set line ≡ Err k → (1 ≤ k) × (k ≤ length line + 1)
unfolding line_of
line_within set [] k h = let e : 1 ≡ k = cc in (omega (arith, e), omega (arith, e))
line_within set (command ∷ ws) k h = let p = line_within_by command ws (named (commands set) command) k h in (p.0, omega (arith, p.1))

line_stays_by : (command : List ℕ) (ws back more : List (List ℕ)) (o : Option Usage) (k : ℕ) → option_map_or (λ usage. words_by command (read_from 2 (start usage) (ws ++ back))) o (Err 1) ≡ Err k → k < 2 + length ws → option_map_or (λ usage. words_by command (read_from 2 (start usage) (ws ++ more))) o (Err 1) ≡ Err k
line_stays_by command ws back more None k h l = h
line_stays_by command ws back more (Some u) k h l = ap (words_by command) (stays 2 k (start u) ws back more (told_by command (read_from 2 (start u) (ws ++ back)) k h) l)

-- what stands after the first bad word of a line does not matter
pub line_stays : (set : CommandSet) (front back more : List (List ℕ)) (k : ℕ) → line_of set (front ++ back) ≡ Err k → k ≤ length front → line_of set (front ++ more) ≡ Err k
unfolding line_of
line_stays set [] back more k h l = let p = line_within set back k h in absurd (omega (arith, p.0, l))
line_stays set (command ∷ ws) back more k h l = line_stays_by command ws back more (named (commands set) command) k h (omega (arith, l))
