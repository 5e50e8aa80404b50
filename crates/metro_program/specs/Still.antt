-- What a run writes and how it ends, for the words, the files of a folder and the bytes of a script.
use Rattle.std.specs.Prelude.{ℕ, Bool, true, false, List, Result, Ok, Err}
use Rattle.mt_io.specs.Files.{Files}
use Rattle.mt_report.specs.declared.outcome.Outcome.{Outcome}
use Rattle.mt_report.specs.declared.outcome.Outcome.TheVariants as outcome
use Rattle.mt_request.specs.declared.fault.WordFault.{WordFault}
use Rattle.mt_request.specs.declared.fault.WordFault.TheVariants as word
use Rattle.mt_request.specs.declared.growth.Action.{Action}
use Rattle.mt_request.specs.declared.growth.Action.TheVariants.{Bundle, Deps, Check, Replay, Grow}
use Rattle.mt_request.specs.declared.request.Request.{Request}
use Rattle.metro_program.specs.Bundle.{bundle_plan}
use Rattle.metro_program.specs.Check.{check_plan}
use Rattle.metro_program.specs.Deps.{deps_plan}
use Rattle.metro_program.specs.Grow.{grow_plan}
use Rattle.metro_program.specs.Plans.{Plan, without_bytes}
use Rattle.metro_program.specs.Replay.{replay_plan}

-- the plan of what is to be done
abbrev pub action_plan : Action → Request → Files → List ℕ → Plan
action_plan Bundle request tree script = bundle_plan request.ask tree
action_plan Deps request tree script = deps_plan request.ask tree
action_plan Check request tree script = check_plan request.ask tree
action_plan Replay request tree script = replay_plan request.full request.ask tree script
action_plan (Grow growth) request tree script = grow_plan request.ask growth

-- whether it reads a script
abbrev pub action_reads : Action → Bool
action_reads Bundle = false
action_reads Deps = false
action_reads Check = false
action_reads Replay = true
action_reads (Grow growth) = false

-- how a run ends at words that ask for nothing
abbrev pub word_outcome : WordFault → Outcome
word_outcome (word.BadWord at) = outcome.BadWord at
word_outcome word.NoMemory = outcome.NoMemory

-- the plan of what the words ask for
abbrev pub words_plan : Result Request WordFault → Files → List ℕ → Plan
words_plan (Ok request) tree script = action_plan request.action request tree script
words_plan (Err fault) tree script = without_bytes (word_outcome fault)

-- whether the words ask to read a script
abbrev pub words_read : Result Request WordFault → Bool
words_read (Ok request) = action_reads request.action
words_read (Err fault) = false
