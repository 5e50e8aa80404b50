-- What is taken from the front of bytes, and what can't be.
use Rattle.std.proofs.Common.{arith, ◌≡◌, ◌<◌, ◌≤◌, ◌∙◌, ℕ, zero, suc, Bool, List, [], ◌∷◌, ◌++◌, length, get_or, take, drop, sym, ap, subst, take-append-drop, Option, Some, None, IfSome, IfNone, MatchOption, Bor, ◌≢◌}
use Rattle.std.specs.Int.{w32, from_le_bytes}
use Rattle.std.proofs.lemmas.List.{append_cancel_left, length-take-le}
use Rattle.std.proofs.lemmas.Nat.{le_bytes_4}
use Rattle.mt_tokens.specs.CacheEntries.{kind_byte, sized, strip_byte, word}
use Rattle.mt_tokens.specs.declared.source.PathKind.{PathKind}
use Rattle.mt_entry.specs.Readers.{NoFront, NoStart, start_bytes, with_source}

-- ---- options

pub refused : {T : Type 0} (r : Option T) (P : Type 0) → P → IfNone r P
refused (Some x) P p = tt
refused None P p = p

pub found_none : {T : Type 0} (r : Option T) (P : Type 0) → r ≡ None → IfNone r P → P
found_none (Some x) P e h = absurd (cc)
found_none None P e h = h

pub found_some : {T : Type 0} (r : Option T) (x : T) (P : T → Type 0) → r ≡ Some x → IfSome r P → P x
found_some r x P e h = subst (λ o. IfSome o P) e h

-- ---- numbers

small_take : (n : ℕ) (bytes : List ℕ) → ((k : ℕ) → get_or bytes k 0 < 256) → (i : ℕ) → get_or (take n bytes) i 0 < 256
small_take zero bytes small i = omega arith
small_take (suc n) [] small i = omega arith
small_take (suc n) (x ∷ xs) small zero = small 0
small_take (suc n) (x ∷ xs) small (suc i) = small_take n xs (λ k. small (suc k)) i

pub word_taken : (bytes front rest : List ℕ) (n : ℕ) → front ≡ take 4 bytes → rest ≡ drop 4 bytes → 4 ≤ length bytes → ((k : ℕ) → get_or bytes k 0 < 256) → n ≡ from_le_bytes w32 front → bytes ≡ word n ++ rest
word_taken bytes front rest n front_is rest_is long small is =
    let w : word n ≡ take 4 bytes = le_bytes_4 (take 4 bytes) n (length-take-le 4 bytes long) (small_take 4 bytes small) (is ∙ ap (from_le_bytes w32) front_is) in
    sym (take-append-drop 4 bytes) ∙ ap (λ f. f ++ drop 4 bytes) (sym w) ∙ ap (λ r. word n ++ r) (sym rest_is)

-- ---- given bytes

pub exactly_some : (bytes front : List ℕ) (r : Option (Bor (List ℕ))) → MatchOption r ((rest : List ℕ) → bytes ≢ front ++ rest) (λ x. bytes ≡ front ++ x.now) → IfSome r (λ rest. bytes ≡ front ++ rest.now)
exactly_some bytes front (Some x) m = m
exactly_some bytes front None m = tt

pub exactly_none : (bytes front : List ℕ) (r : Option (Bor (List ℕ))) → MatchOption r ((rest : List ℕ) → bytes ≢ front ++ rest) (λ x. bytes ≡ front ++ x.now) → IfNone r (NoFront front bytes)
exactly_none bytes front (Some x) m = tt
exactly_none bytes front None m = record { none = m }

-- ---- the start

pub start_is : (strip : Bool) (kind : PathKind) (s k : ℕ) → s ≡ strip_byte strip → k ≡ kind_byte kind → 77 ∷ 84 ∷ 67 ∷ 1 ∷ s ∷ k ∷ [] ≡ start_bytes strip kind
start_is strip kind s k e f = ap (λ x. 77 ∷ 84 ∷ 67 ∷ 1 ∷ x ∷ k ∷ []) e ∙ ap (λ x. 77 ∷ 84 ∷ 67 ∷ 1 ∷ strip_byte strip ∷ x ∷ []) f

-- ---- the source

pub no_start : (bytes : List ℕ) (strip : Bool) (kind : PathKind) (source front : List ℕ) → front ≡ start_bytes strip kind → NoFront front bytes → NoStart bytes strip kind source
no_start bytes strip kind source front is n = record { none = λ rest spelled. n.none (sized source ++ rest) (spelled ∙ ap (λ f. f ++ (sized source ++ rest)) (sym is)) }

after_front : (front xs ys bytes : List ℕ) → bytes ≡ front ++ xs → bytes ≡ front ++ ys → xs ≡ ys
after_front front xs ys bytes e f = append_cancel_left front xs ys (sym e ∙ f)

pub no_count : (bytes rest : List ℕ) (strip : Bool) (kind : PathKind) (source front count : List ℕ) → front ≡ start_bytes strip kind → bytes ≡ front ++ rest → count ≡ word (length source) → NoFront count rest → NoStart bytes strip kind source
no_count bytes rest strip kind source front count is e counts n =
    record { none = λ more spelled. n.none (source ++ more) (after_front (start_bytes strip kind) rest (sized source ++ more) bytes (e ∙ ap (λ f. f ++ rest) is) spelled ∙ ap (λ f. f ++ (source ++ more)) (sym counts)) }

no_source_at : (bytes rest after : List ℕ) (strip : Bool) (kind : PathKind) (source front count : List ℕ) → front ≡ start_bytes strip kind → bytes ≡ front ++ rest → count ≡ word (length source) → rest ≡ count ++ after → NoFront source after → NoStart bytes strip kind source
no_source_at bytes rest after strip kind source front count is e counts f n =
    record { none = λ more spelled. n.none more (after_front (word (length source)) after (source ++ more) rest (f ∙ ap (λ c. c ++ after) counts) (after_front (start_bytes strip kind) rest (sized source ++ more) bytes (e ∙ ap (λ g. g ++ rest) is) spelled)) }

pub no_source : (bytes rest after : List ℕ) (strip : Bool) (kind : PathKind) (source front count : List ℕ) (r : Option (Bor (List ℕ))) → front ≡ start_bytes strip kind → bytes ≡ front ++ rest → count ≡ word (length source) → rest ≡ count ++ after → IfNone r (NoFront source after) → IfNone r (NoStart bytes strip kind source)
no_source bytes rest after strip kind source front count (Some x) is e counts f n = tt
no_source bytes rest after strip kind source front count None is e counts f n = no_source_at bytes rest after strip kind source front count is e counts f n

pub source_taken : (bytes rest after : List ℕ) (strip : Bool) (kind : PathKind) (source front count : List ℕ) (r : Option (Bor (List ℕ))) → front ≡ start_bytes strip kind → bytes ≡ front ++ rest → count ≡ word (length source) → rest ≡ count ++ after
    → IfSome r (λ left. after ≡ source ++ left.now) → IfSome r (λ left. bytes ≡ with_source strip kind source left.now)
source_taken bytes rest after strip kind source front count (Some x) is e counts f s =
    e ∙ ap (λ g. g ++ rest) is ∙ ap (λ r. start_bytes strip kind ++ r) (f ∙ ap (λ c. c ++ after) counts ∙ ap (λ a. word (length source) ++ a) s)
source_taken bytes rest after strip kind source front count None is e counts f s = tt
