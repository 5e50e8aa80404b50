-- How many calls in the modules of a build name what only a run can tell.
use Rattle.std.specs.Prelude.{ℕ, List, Result, Ok, Err}
use Rattle.std.specs.List.{sum_by}
use Rattle.std.specs.Option.{option_map_or}
use Rattle.mt_tokens.specs.Transform.{Transformed}
use Rattle.mt_tokens.specs.declared.source.SourceFault.{SourceFault}
use Rattle.mt_package.specs.declared.options.Options.{Options}
use Rattle.mt_files.specs.Asks.{Ask}
use Rattle.mt_files.specs.Edges.{transformed_at}
use Rattle.mt_files.specs.Reach.{reach}
use Rattle.mt_files.specs.Snapshots.{Snapshot}
use Rattle.mt_transform.specs.declared.output.Output.{Output}
use Rattle.mt_graph.specs.declared.found.Found.{Found}

-- those of what a source became: none where it is refused
abbrev pub calls_of : Result Transformed SourceFault → ℕ
calls_of (Ok t) = t.dynamic
calls_of (Err fault) = 0

-- those of the module at a path: none where there is no source
abbrev pub calls_at : Options → Snapshot → List ℕ → ℕ
calls_at options files path = option_map_or calls_of (transformed_at options files path) 0

-- those of all modules that the entries reach
abbrev pub dynamic_calls : Ask → Snapshot → ℕ
dynamic_calls ask files = sum_by (calls_at ask.options files) (reach ask files)

-- ---- of what was found

-- those of an output: none after a refusal
abbrev pub calls_made : Result Output SourceFault → ℕ
calls_made (Ok output) = output.dynamic
calls_made (Err fault) = 0

-- those of what was found at some paths
abbrev pub calls_in : List Found → ℕ
calls_in founds = sum_by (λ found. calls_made found.made) founds
