-- What contracts see of the objects in memory.
use Rattle.std.specs.Prelude.{ℕ, ◌+◌, ◌-◌, ◌^◌, ◌≡◌, ◌↔◌, List, [], ◌∷◌, ◌++◌, drop, get_or, min, take, None, OnOk, IsErrOf, Result, Some, refl}
use Rattle.std.specs.List.{Contains, concat}
use Rattle.std.specs.Coded.{Coded, code_by, coded×, coded_list, coded_ℕ}
use Rattle.std.specs.FinMap as map
use Rattle.mt_io.specs.Files.{Files}
use Rattle.mt_io.specs.Seen.{Seen}
use Rattle.mt_io.specs.Told.{Kept, Reading}
use Rattle.mt_io.specs.declared.trouble.Trouble.{Trouble}
use Rattle.mt_io.specs.declared.trouble.Trouble.TheVariants.{Failed, NoMemory}

-- the numbers of the calls that fail, counted from 1, and how many calls and faults there were
pub record Plan : Type 0 where
  pub failing : List ℕ
  pub calls : ℕ
  pub faults : ℕ

-- a plan before the first call
abbrev pub plan_of : List ℕ → Plan
plan_of failing = record { failing = failing; calls = 0; faults = 0 }

-- how many calls there were once one more has begun: they are counted up to the greatest number of their type
abbrev pub calls_after : Plan → ℕ
calls_after plan = min (plan.calls + 1) (2 ^ 64 - 1)

-- the next call is one that fails
abbrev pub NextFails : Plan → Type 0
NextFails plan = Contains plan.failing (calls_after plan)

-- the plan after a call that didn't fail
abbrev pub after_pass : Plan → Plan
after_pass plan = record { failing = plan.failing; calls = calls_after plan; faults = plan.faults }

-- the plan after a call that failed: one fault more, up to the greatest number of its type
abbrev pub after_fault : Plan → Plan
after_fault plan = record { failing = plan.failing; calls = calls_after plan; faults = min (plan.faults + 1) (2 ^ 64 - 1) }

-- a call of an object in memory fails exactly where its plan says so, and is counted
pub record FollowsPlan {T : Type 0} (before after : Plan) (result : Result T Trouble) : Type 0 where
  pub fails : IsErrOf result Failed ↔ NextFails before
  pub fault : IsErrOf result Failed → after ≡ after_fault before
  pub lacks : IsErrOf result NoMemory → after ≡ after_pass before
  pub pass : OnOk result (after ≡ after_pass before)

-- a folder in memory: its files, and which of its calls fail
pub record PlannedFolder : Type 0 where
  pub files : Files
  pub plan : Plan

-- it is stored as the tuple of its fields
abbrev pub planned_folder_code : Coded PlannedFolder
planned_folder_code =
    code_by (Files × (List ℕ × (ℕ × ℕ))) (coded× (map.code (coded_list coded_ℕ) (coded_list coded_ℕ)) (coded× (coded_list coded_ℕ) (coded× coded_ℕ coded_ℕ)))
    (λ f. (f.files, (f.plan.failing, (f.plan.calls, f.plan.faults))))
    (λ t. record { files = t.0; plan = record { failing = t.1.0; calls = t.1.1.0; faults = t.1.1.1 } }) (λ _. refl)

-- what contracts see of it: it tells its files
abbrev pub seen_folder : PlannedFolder → Seen Files
seen_folder folder = record { faults = folder.plan.faults; told = Some folder.files; beside = None }

-- what contracts see of a folder in memory that never fails
abbrev pub seen_sure_folder : Files → Seen Files
seen_sure_folder files = record { faults = 0; told = Some files; beside = None }

-- a store in memory: the bytes by their keys, and which of its calls fail
pub record PlannedStore : Type 0 where
  pub kept : Kept
  pub plan : Plan

-- it is stored as the tuple of its fields
abbrev pub planned_store_code : Coded PlannedStore
planned_store_code =
    code_by (Kept × (List ℕ × (ℕ × ℕ))) (coded× (map.code (coded_list coded_ℕ) (coded_list coded_ℕ)) (coded× (coded_list coded_ℕ) (coded× coded_ℕ coded_ℕ)))
    (λ s. (s.kept, (s.plan.failing, (s.plan.calls, s.plan.faults))))
    (λ t. record { kept = t.0; plan = record { failing = t.1.0; calls = t.1.1.0; faults = t.1.1.1 } }) (λ _. refl)

-- what contracts see of it: it tells what it keeps
abbrev pub seen_store : PlannedStore → Seen Kept
seen_store store = record { faults = store.plan.faults; told = Some store.kept; beside = None }

-- what contracts see of a store in memory that never fails
abbrev pub seen_sure_store : Kept → Seen Kept
seen_sure_store kept = record { faults = 0; told = Some kept; beside = None }

-- a sink in memory: the bytes that it took, for how many more it has room, and which of its calls fail
pub record PlannedSink : Type 0 where
  pub bytes : List ℕ
  pub room : ℕ
  pub plan : Plan

-- what contracts see of it: it tells the bytes that it took
abbrev pub seen_sink : PlannedSink → Seen (List ℕ)
seen_sink sink = record { faults = sink.plan.faults; told = Some sink.bytes; beside = None }

-- what contracts see of a sink that never fails and tells nothing
abbrev pub seen_sure_sink : Seen (List ℕ)
seen_sure_sink = record { faults = 0; told = None; beside = None }

-- the pieces that a source gave so far, joined, and those that are left, the first without what was given of it
pub record PieceReading : Type 0 where
  pub given : List ℕ
  pub pieces : List (List ℕ)

-- a reading of pieces before the first read
abbrev pub unread : List (List ℕ) → PieceReading
unread pieces = record { given = []; pieces = pieces }

-- the reading that pieces join to
abbrev pub joined : PieceReading → Reading
joined r = record { given = r.given; left = concat r.pieces }

-- a source in memory: what it gave, the pieces that are left, and which of its calls fail
pub record PlannedSource : Type 0 where
  pub reading : PieceReading
  pub plan : Plan

-- what contracts see of it: it tells its reading
abbrev pub seen_source : PlannedSource → Seen Reading
seen_source source = record { faults = source.plan.faults; told = Some (joined source.reading); beside = None }

-- what contracts see of a source in memory that never fails
abbrev pub seen_sure_source : PieceReading → Seen Reading
seen_sure_source reading = record { faults = 0; told = Some (joined reading); beside = None }

-- the pieces from the first one with a byte on
abbrev pub unspent : List (List ℕ) → List (List ℕ)
unspent [] = []
unspent ([] ∷ pieces) = unspent pieces
unspent ((byte ∷ bytes) ∷ pieces) = (byte ∷ bytes) ∷ pieces

-- the piece that is next: the first with a byte, or nothing where none has one
abbrev pub next_piece : List (List ℕ) → List ℕ
next_piece pieces = get_or (unspent pieces) 0 []

-- the pieces without so many bytes of the first
abbrev pub without : ℕ → List (List ℕ) → List (List ℕ)
without n [] = []
without n (piece ∷ pieces) = drop n piece ∷ pieces

-- the reading once the next piece has given so many bytes
abbrev pub give : ℕ → PieceReading → PieceReading
give n r = record { given = r.given ++ take n (next_piece r.pieces); pieces = without n (unspent r.pieces) }

-- what was given at a place in pieces: so many whole pieces, and then so many bytes of the next
abbrev pub given_at : List (List ℕ) → ℕ → ℕ → List ℕ
given_at pieces piece at = concat (take piece pieces) ++ take at (get_or pieces piece [])

-- the pieces that are left at a place
abbrev pub left_at : List (List ℕ) → ℕ → ℕ → List (List ℕ)
left_at pieces piece at = without at (drop piece pieces)
