-- What the words ask for.
use Rattle.std.proofs.Common.{inl, inr, ◌⊎◌, ◌≡◌, ◌∙◌, ℕ, Bool, true, false, cond, List, Result, Ok, Err, refl, ap, sym, subst, codes}
use Rattle.std.specs.Str.{bytes_eq}
use Rattle.mt_io.specs.Files.{Files}
use Rattle.mt_request.specs.Asks.{AreEntries, build_ask, grown_ask}
use Rattle.mt_request.specs.Requests.{AreSaid, asked, request_in, request_of}
use Rattle.mt_request.specs.declared.fault.WordFault.{WordFault}
use Rattle.mt_request.specs.declared.fault.WordFault.TheVariants.{NoMemory}
use Rattle.mt_request.specs.declared.growth.Action.{Action}
use Rattle.mt_request.specs.declared.growth.Action.TheVariants.{Bundle, Deps, Check, Replay}
use Rattle.mt_request.specs.declared.request.Request.{Request}
use Rattle.mt_request.proofs.Entries.{entries_said, grown_fits}
use Rattle.mt_request.proofs.Said.{line_said}
use Rattle.mt_revision.specs.Revisions.{bundle_of}
use Rattle.mt_script.specs.Scripts.{script_of}
use Rattle.mt_words.specs.Words.{words_of}
use Rattle.mt_words.specs.declared.table.CommandSet.TheVariants.{Still}
use Rattle.mt_words.specs.declared.words.Words.{Words}
use Rattle.mt_words.specs.declared.words.WordsFault.{WordsFault}
use Rattle.metro_program.specs.Bundle.{Bundles}
use Rattle.metro_program.specs.Check.{Checks}
use Rattle.metro_program.specs.Deps.{PrintsGraph}
use Rattle.metro_program.specs.Replays.{Replays}
use Rattle.metro_program.specs.Still.{action_plan, words_plan}
use Rattle.metro_program.proofs.Checks.{checks}
use Rattle.metro_program.proofs.First.{writes_first}
use Rattle.metro_program.proofs.PrintsGraph.{prints_graph}
use Rattle.metro_program.proofs.Replays.{replays}

ask_entries : (words : Words) → AreSaid words → (grows : Bool) → bytes_eq words.command (codes "grow") ≡ grows → AreEntries (cond grows grown_ask (build_ask words.positionals words.options)).entries
ask_entries words said true e = grown_fits
ask_entries words said false e = entries_said words said e

said_entries : (words : Words) → AreSaid words → AreEntries (request_in words).ask.entries
unfolding request_in
said_entries words said = ask_entries words said (bytes_eq words.command (codes "grow")) refl

read_entries : (line : List (List ℕ)) (request : Request) (read : Result Words WordsFault) → words_of Still line ≡ read → asked read ≡ Ok request → AreEntries request.ask.entries
read_entries line request (Ok words) e h = let z : request_in words ≡ request = cc in subst (λ (r : Request). AreEntries r.ask.entries) z (said_entries words (line_said line words e))
read_entries line request (Err fault) e h = absurd (cc)

-- words ask for entries that a build may have
request_entries : (line : List (List ℕ)) (request : Request) → request_of line ≡ Ok request → AreEntries request.ask.entries
request_entries line request h = read_entries line request (words_of Still line) refl h

module _ (words : List (List ℕ)) (request : Request) (tree : Files) (bytes : List ℕ) (e : request_of words ≡ Ok request) where
  -- the plan of words is that of what they ask for
  words_as : (action : Action) → request.action ≡ action → action_plan action request tree bytes ≡ words_plan (request_of words) tree bytes
  words_as action is = ap (λ a. action_plan a request tree bytes) (sym is) ∙ ap (λ w. words_plan w tree bytes) (sym e)

  -- what the plan of words says that ask for a bundle, a graph, a check, or a replay
  pub words_bundle : request.action ≡ Bundle → Bundles request.ask tree (words_plan (request_of words) tree bytes)
  words_bundle is = subst (Bundles request.ask tree) (words_as Bundle is) (writes_first bundle_of request.ask tree (request_entries words request e))

  pub words_deps : request.action ≡ Deps → PrintsGraph request.ask tree (words_plan (request_of words) tree bytes)
  words_deps is = subst (PrintsGraph request.ask tree) (words_as Deps is) (prints_graph request.ask tree (request_entries words request e))

  pub words_check : request.action ≡ Check → Checks request.ask tree (words_plan (request_of words) tree bytes)
  words_check is = subst (Checks request.ask tree) (words_as Check is) (checks request.ask tree)

  pub words_replay : request.action ≡ Replay → Replays request.full request.ask tree (script_of bytes) (words_plan (request_of words) tree bytes)
  words_replay is = subst (Replays request.full request.ask tree (script_of bytes)) (words_as Replay is) (replays request.full request.ask tree bytes (request_entries words request e))

-- what a reader of words answers
abbrev pub ReadsWords : Result Request WordFault → Result Request WordFault → Type 0
ReadsWords wanted r = (r ≡ Err NoMemory) ⊎ (r ≡ wanted)

pub words_ok : (wanted : Result Request WordFault) (request : Request) → ReadsWords wanted (Ok request) → wanted ≡ Ok request
words_ok wanted request (inl h) = absurd (cc)
words_ok wanted request (inr h) = sym h
