-- What holds wherever the commands of a replay lead.
use Rattle.std.specs.Prelude.{◌≡◌, ◌≤◌, ℕ, List, [], ◌∷◌, ◌++◌, length, Option, Some, None, Ok}
use Rattle.std.specs.List.{filter_map, fold}
use Rattle.std.specs.Result.{result_ok}
use Rattle.std.specs.Option.{unwrap_or}
use Rattle.mt_io.specs.Files.{Files}
use Rattle.mt_files.specs.Asks.{Ask}
use Rattle.mt_files.specs.Changes.{stepped_by}
use Rattle.mt_files.specs.Crawl.{entry_of}
use Rattle.mt_files.specs.Fresh.{fresh}
use Rattle.mt_files.specs.Rescans.{rescanned}
use Rattle.mt_files.specs.Snapshots.{Snapshot}
use Rattle.mt_files.specs.declared.build_fault.BuildFault.{BuildFault}
use Rattle.mt_files.specs.declared.change.Change.{Change}
use Rattle.mt_files.specs.declared.change.Change.TheVariants as change
use Rattle.mt_revision.specs.Contents.{bundle_at, edges_named, modules_at}
use Rattle.mt_revision.specs.Logs.{Accepted, Denied, IsLegal, Logged, files_at, numbering_at, reached_by, unlogged}
use Rattle.mt_revision.specs.Revisions.{bundle_of}
use Rattle.mt_revision.specs.declared.revision.Revision.{Revision}
use Rattle.mt_script.specs.declared.command.Command.{Command}
use Rattle.mt_script.specs.declared.command.Command.TheVariants.{Put, Del, Rescan, Build, End}
use Rattle.metro_program.specs.States.{State}
use Rattle.metro_program.specs.Builds.{Answer, Built, Same}
use Rattle.metro_program.specs.Replay.{History}

-- ---- the log

-- the build that the log has of an answer
abbrev pub logged : Answer → Option Logged
logged (Built build) = Some build
logged (Same number) = None

-- the log of some answers
abbrev pub log_of : List Answer → List Logged
log_of answers = filter_map logged answers

-- why the build with this answer was refused, if it was
abbrev pub refusal_of : Answer → Option BuildFault
refusal_of (Built (Accepted revision)) = None
refusal_of (Built (Denied count fault)) = Some fault
refusal_of (Same number) = None

-- why the build with the last of these answers was refused, if it was
abbrev pub last_refusal : List Answer → Option BuildFault
last_refusal answers = fold (λ before answer. refusal_of answer) None answers

-- ---- the changes of commands

-- what a command changes of these files, over a folder of this tree
abbrev pub changes_of : Files → Snapshot → Command → List Change
changes_of tree files (Put path bytes) = change.Put path (entry_of path bytes) ∷ []
changes_of tree files (Del path) = change.Del path ∷ []
changes_of tree files Rescan = unwrap_or (result_ok (rescanned files tree)) []
changes_of tree files Build = []
changes_of tree files End = []

-- what commands change one after another
abbrev pub changes_by : Files → Snapshot → List Command → List Change
changes_by tree files [] = []
changes_by tree files (command ∷ commands) = changes_of tree files command ++ changes_by tree (stepped_by files (changes_of tree files command)) commands

-- ---- facts

-- the files are those of the start with all accepted changes; the log of the builds is legal and has reached the latest revision and the numbered paths; and the last build was refused where the state says so
pub record IsFresh (ask : Ask) (files : Snapshot) (h : History) : Type 0 where
  pub asked : h.state.ask ≡ ask
  pub changed : h.state.files ≡ stepped_by files h.state.journal
  pub legal : IsLegal ask files h.state.journal (log_of h.answers)
  pub count : ℕ
  pub reached : reached_by ask files h.state.journal unlogged (log_of h.answers) ≡ record { latest = h.state.latest; count = count; numbering = h.state.numbering }
  pub counted : count ≤ length h.state.journal
  pub refused : h.state.refusal ≡ last_refusal h.answers

-- a revision has the modules, the edges and the bundle of a fresh traversal of these files, under this numbering
pub record IsTraversal (ask : Ask) (numbering : List (List ℕ)) (files : Snapshot) (revision : Revision) : Type 0 where
  pub modules : revision.modules ≡ modules_at ask numbering files
  pub edges : fresh ask files ≡ Ok (edges_named numbering revision)
  pub bundle : bundle_of revision ≡ bundle_at ask numbering files

-- each revision of the log is a traversal of the files that it counts, under the numbers that were kept until then
abbrev pub AreTraversals : Ask → Snapshot → History → Type 0
AreTraversals ask files h =
    (front back : List Logged) (r : Revision) → log_of h.answers ≡ front ++ Accepted r ∷ back
    → IsTraversal ask (numbering_at ask (reached_by ask files h.state.journal unlogged front) (files_at files h.state.journal r.changes)) (files_at files h.state.journal r.changes) r

-- no number is given up or changed: the numbered paths are those from before, and perhaps more after them
abbrev pub KeepsNumbers : State → State → Type 0
KeepsNumbers before now = (more : List (List ℕ)) × (now.numbering ≡ before.numbering ++ more)
