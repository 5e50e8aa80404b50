-- The journal: changes in the order in which they came, as many as its two limits leave room for.
use Rattle.std.specs.Prelude.{ℕ, ◌≤◌, ◌+◌, Bool, not, ◌||◌, List, length, nat_lt, if◌then◌else◌, Result, Ok, Err}
use Rattle.std.specs.List.{All, sum_by}
use Rattle.mt_files.specs.declared.file_map.Entry.TheVariants.{Source}
use Rattle.mt_files.specs.declared.change.Change.{Change}
use Rattle.mt_files.specs.declared.change.Change.TheVariants.{Put}
use Rattle.mt_files.specs.declared.journal.JournalFault.{JournalFault}
use Rattle.mt_files.specs.declared.journal.JournalFault.TheVariants.{JournalFull}
use Rattle.mt_files.specs.Changes.{IsChange}

-- the most changes of a journal
abbrev pub max_changes : ℕ
max_changes = 65536

-- the most bytes that the sources put by the changes of a journal have together
abbrev pub max_journal_bytes : ℕ
max_journal_bytes = 1073741824

-- the bytes of the source that a change puts: none where it puts no source
abbrev pub bytes_of : Change → ℕ
bytes_of (Put path (Source bytes)) = length bytes
bytes_of change = 0

-- the bytes of all sources that changes put
abbrev pub journal_bytes : List Change → ℕ
journal_bytes changes = sum_by bytes_of changes

-- changes that a journal may hold: each is one, and they are within both limits
pub record IsJournal (changes : List Change) : Type 0 where
  pub each : All IsChange changes
  pub few : length changes ≤ max_changes
  pub bounded : journal_bytes changes ≤ max_journal_bytes

-- whether a journal has no room for one more change
abbrev pub is_full : List Change → Change → Bool
is_full changes change = not (nat_lt (length changes) max_changes) || nat_lt max_journal_bytes (journal_bytes changes + bytes_of change)

-- how a journal without room says so: the changes that it holds, and their bytes
abbrev pub full : List Change → JournalFault
full changes = JournalFull (length changes) (journal_bytes changes)

-- what a journal answers to one more change
abbrev pub push_answer : List Change → Change → Result (Unit {0}) JournalFault
push_answer changes change = if is_full changes change then Err (full changes) else Ok tt
