-- What contracts see of an object of the outside, and what a call did to it.
--
-- The outside is what a function is lent and does not own: a folder, a store, a source, a sink. Its type is a parameter,
-- so a contract knows it only by the trait's one ghost member, `seen`:
--
--     faults   how many faults there were. An answer that names a failure comes with one more fault.
--     told     the content, where the object tells it: the files of a folder, what a store keeps, what a source gave and
--              has left, what a sink took. A real object tells nothing: `None`.
--     beside   what the object tells beside its trait. Each call keeps it, so one object can have two traits.
--
-- `Tells seen content` is the premise that an object tells its content.
--
-- What happened to a sink is said by three facts, which are opaque: the laws beside them (`proofs/Seen.antt`) are all
-- that a proof needs.
--
--     Wrote before after bytes     these bytes were written
--     Stopped before after bytes   a prefix of these bytes was written, or nothing
--     Missed before after          nothing was written
--
-- What a call did, by its answer, is one record:
--
--     Takes           a sink's write: a prefix of the bytes, at least one byte of them
--     Writes          a call that writes all of its bytes, and can only fail
--     WritesOrLacks   the same for a call that can also run out of memory
--     Looks           a call that only looks: what is told stays
--     Reads           a source's read
--     Replaces        a folder's write
--     Puts            a store's put
--
-- In each of them `cause` says that a failure has its fault, and `later` that the count of faults doesn't fall.
use Rattle.std.specs.Prelude.{ℕ, ◌≡◌, ◌≤◌, ◌<◌, [], List, Option, Some, Result, OnOk, OnErr, IsErrOf, IfOk, length, take}
use Rattle.std.specs.FinMap.{insert}
use Rattle.mt_io.specs.Causes.{Rose}
use Rattle.mt_io.specs.Files.{Files, KeepsOthers}
use Rattle.mt_io.specs.Told.{Grows, GrowsByPrefix, Kept, Reading, read_on}
use Rattle.mt_io.specs.declared.trouble.Trouble.{Trouble}
use Rattle.mt_io.specs.declared.trouble.Trouble.TheVariants.{Failed}

-- what an object shows to contracts: how many faults there were, what it tells through its trait, and what it tells beside it
pub record Seen (T : Type 0) : Type 0 where
  pub faults : ℕ
  pub told : Option T
  pub beside : Option (List (List ℕ))

-- the object tells this content
abbrev pub Tells : {T : Type 0} → Seen T → T → Type 0
Tells seen content = seen.told ≡ Some content

-- ---- what happened to a sink

-- these bytes were written: what is told grew by them
unfoldable pub Wrote : Seen (List ℕ) → Seen (List ℕ) → List ℕ → Type 0
Wrote before after bytes = Grows before.told after.told bytes × (after.beside ≡ before.beside)

-- a prefix of these bytes was written, or nothing
unfoldable pub Stopped : Seen (List ℕ) → Seen (List ℕ) → List ℕ → Type 0
Stopped before after bytes = GrowsByPrefix before.told after.told bytes × (after.beside ≡ before.beside)

-- nothing was written
unfoldable pub Missed : Seen (List ℕ) → Seen (List ℕ) → Type 0
Missed before after = (after.told ≡ before.told) × (after.beside ≡ before.beside)

-- ---- what a call did, by its answer

-- it took a prefix of these bytes and says how many, or it took none and a fault was counted
pub record Takes {E : Type 0} (before after : Seen (List ℕ)) (bytes : List ℕ) (result : Result ℕ E) : Type 0 where
  pub within : IfOk result (λ n. n ≤ length bytes)
  pub some : IfOk result (λ n. 0 < length bytes → 0 < n)
  pub taken : IfOk result (λ n. Wrote before after (take n bytes))
  pub missed : OnErr result (Missed before after)
  pub cause : OnErr result (Rose before.faults after.faults)
  pub later : before.faults ≤ after.faults

-- it wrote these bytes, or it stopped and a fault was counted
pub record Writes {T E : Type 0} (before after : Seen (List ℕ)) (bytes : List ℕ) (result : Result T E) : Type 0 where
  pub all : OnOk result (Wrote before after bytes)
  pub stop : OnErr result (Stopped before after bytes)
  pub cause : OnErr result (Rose before.faults after.faults)
  pub later : before.faults ≤ after.faults

-- it wrote these bytes, or it stopped; a fault was counted where it answers `Failed`
pub record WritesOrLacks {T : Type 0} (before after : Seen (List ℕ)) (bytes : List ℕ) (result : Result T Trouble) : Type 0 where
  pub all : OnOk result (Wrote before after bytes)
  pub stop : OnErr result (Stopped before after bytes)
  pub cause : IsErrOf result Failed → Rose before.faults after.faults
  pub later : before.faults ≤ after.faults

-- it only looked: what is told stays, and a fault was counted where it failed
pub record Looks {T : Type 0} (before after : Seen T) (failed : Type 0) : Type 0 where
  pub same : after.told ≡ before.told
  pub cause : failed → Rose before.faults after.faults
  pub later : before.faults ≤ after.faults
  pub apart : after.beside ≡ before.beside

-- it put the next bytes to the front of `into`, which is `now` then, or it gave none and a fault was counted
pub record Reads {E : Type 0} (before after : Seen Reading) (into now : List ℕ) (result : Result ℕ E) : Type 0 where
  pub within : IfOk result (λ n. n ≤ length into)
  -- where the source tells its reading
  pub enough : (r : Reading) → Tells before r → IfOk result (λ n. n ≤ length r.left)
  pub written : (r : Reading) → Tells before r → IfOk result (λ n. take n now ≡ take n r.left)
  pub given : (r : Reading) → Tells before r → IfOk result (λ n. Tells after (read_on n r))
  pub end : (r : Reading) → Tells before r → IfOk result (λ n. 0 < length into → n ≡ 0 → r.left ≡ [])
  pub err : OnErr result (after.told ≡ before.told)
  pub cause : OnErr result (Rose before.faults after.faults)
  pub later : before.faults ≤ after.faults
  pub apart : after.beside ≡ before.beside

-- the file of this path has these bytes now. Where it failed, that file may be as it was, changed or gone; the others stay
pub record Replaces {T : Type 0} (before after : Seen Files) (path bytes : List ℕ) (result : Result T Trouble) : Type 0 where
  pub written : OnOk result ((files : Files) → Tells before files → Tells after (insert files path bytes))
  pub others : OnErr result ((files : Files) → Tells before files → KeepsOthers files path after.told)
  pub cause : IsErrOf result Failed → Rose before.faults after.faults
  pub later : before.faults ≤ after.faults
  pub apart : after.beside ≡ before.beside

-- these bytes are kept under this key now, or all is kept as it was
pub record Puts {T : Type 0} (before after : Seen Kept) (key bytes : List ℕ) (result : Result T Trouble) : Type 0 where
  pub ok : OnOk result ((kept : Kept) → Tells before kept → Tells after (insert kept key bytes))
  pub err : OnErr result (after.told ≡ before.told)
  pub cause : IsErrOf result Failed → Rose before.faults after.faults
  pub later : before.faults ≤ after.faults
  pub apart : after.beside ≡ before.beside
