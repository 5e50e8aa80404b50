-- What a run owes to those who lend it the outside.
use Rattle.std.specs.Prelude.{◌≡◌, ◌⊎◌, ℕ, Bool, true, List, Some, Result, Ok, Err, IsErr}
use Rattle.std.specs.Option.{option_map}
use Rattle.mt_io.specs.Causes.{Rose}
use Rattle.mt_io.specs.Files.{Files}
use Rattle.mt_io.specs.Seen.{Seen, Stopped, Tells, Wrote}
use Rattle.mt_io.specs.Told.{Reading}
use Rattle.mt_report.specs.Outcomes.{IsBadWord, IsPlanned, line_of, status_of}
use Rattle.mt_report.specs.declared.outcome.Outcome.{Outcome}
use Rattle.mt_report.specs.declared.outcome.Outcome.TheVariants.{NoMemory, ReadFailed, WriteFailed}
use Rattle.mt_request.specs.declared.fault.WordFault.{WordFault}
use Rattle.mt_request.specs.declared.growth.Action.TheVariants.{Replay}
use Rattle.mt_request.specs.declared.request.Request.{Request}
use Rattle.metro_program.specs.Lent.{Lent, Stood}
use Rattle.metro_program.specs.Plans.{Plan}
use Rattle.metro_program.specs.Progress.{HasReason, ReadsScript}
use Rattle.metro_program.specs.Still.{word_outcome, words_plan, words_read}

-- a script that is read tells these bytes as those that it has left
abbrev pub HasScript : Bool → Seen Reading → List ℕ → Type 0
HasScript reads script bytes = reads ≡ true → option_map (λ r. r.left) script.told ≡ Some bytes

-- the folder tells this tree, and a script that is read these bytes
pub record Given (reads : Bool) (lent : Lent) (tree : Files) (bytes : List ℕ) : Type 0 where
  pub folder : Tells lent.folder tree
  pub script : HasScript reads lent.script bytes

-- none of what a run uses failed
pub record Worked (reads : Bool) (before after : Lent) : Type 0 where
  pub folder : Stood before.folder after.folder
  pub script : reads ≡ true → Stood before.script after.script
  pub out : Stood before.out after.out

-- what a run owes that means these plans, reads a script or not, and ended so: an outcome that is no fault is the plan's, and the plan's bytes are written; else a prefix of them
pub record Owes (meaning : Files → List ℕ → Plan) (reads : Bool) (before after : Lent) (outcome : Outcome) : Type 0 where
  pub planned : (tree : Files) (bytes : List ℕ) → Given reads before tree bytes → IsPlanned outcome → outcome ≡ (meaning tree bytes).outcome
  pub written : (tree : Files) (bytes : List ℕ) → Given reads before tree bytes → IsPlanned outcome → Wrote before.out after.out (meaning tree bytes).bytes
  pub begun : (tree : Files) (bytes : List ℕ) → Given reads before tree bytes → Stopped before.out after.out (meaning tree bytes).bytes

-- each fault of a run that reads a script or not has its cause, and this stays as it was: what the folder tells, and what each object tells beside
pub record HasCauses (reads : Bool) (before after : Lent) (outcome : Outcome) : Type 0 where
  pub read : outcome ≡ ReadFailed → Rose before.folder.faults after.folder.faults ⊎ ((reads ≡ true) × Rose before.script.faults after.script.faults)
  pub write : outcome ≡ WriteFailed → Rose before.out.faults after.out.faults
  pub folder : after.folder.told ≡ before.folder.told
  pub apart : (after.folder.beside ≡ before.folder.beside) × (after.script.beside ≡ before.script.beside) × (after.out.beside ≡ before.out.beside)

-- a run came to a plan, or ran out of memory
abbrev pub ComesTo : Plan → ℕ → Seen (List ℕ) → Seen (List ℕ) → Type 0
ComesTo plan status before after = (status ≡ 5) ⊎ ((status ≡ status_of plan.outcome) × Wrote before after plan.bytes)

-- what a run owes that the words ask for and that ended so
pub record Comes (sure : Type 0) (request : Result Request WordFault) (before after : Lent) (outcome : Outcome) : Type 0 where
  -- where it is sure what its builds find: the plan of the words, and each line of a script
  pub owes : sure → Owes (words_plan request) (words_read request) before after outcome
  pub script : sure → (asked : Request) → request ≡ Ok asked → asked.action ≡ Replay → ReadsScript asked.full asked.ask before after outcome
  -- and always, causes and reasons
  pub causes : HasCauses (words_read request) before after outcome
  pub reason : (asked : Request) → request ≡ Ok asked → asked.action ≡ Replay → (reading : Reading) → Tells before.script reading → HasReason reading outcome
  -- words that ask for nothing end it, whatever the folder tells; and nothing else ends it so
  pub refused : (fault : WordFault) → request ≡ Err fault → (outcome ≡ word_outcome fault) ⊎ (outcome ≡ NoMemory)
  pub word : IsBadWord outcome → IsErr request

-- what a run owes that the words ask for and that has this status
pub record Runs (sure : Type 0) (request : Result Request WordFault) (before after : Lent) (log_before log_after : Seen (List ℕ)) (status : ℕ) : Type 0 where
  -- how it ended
  pub outcome : Outcome
  pub is : status ≡ status_of outcome
  pub comes : Comes sure request before after outcome
  -- where nothing failed and it is sure what its builds find, it came to its plan, or ran out of memory
  pub complete : sure → (tree : Files) (bytes : List ℕ) → Given (words_read request) before tree bytes → Worked (words_read request) before after → ComesTo (words_plan request tree bytes) status before.out after.out
  -- the log has the line of how it ended, where the log didn't fail
  pub line : Stood log_before log_after → Wrote log_before log_after (line_of outcome)
  pub log : log_after.beside ≡ log_before.beside
