-- How many calls in what is explored name what only a run can tell.
use Rattle.std.proofs.Common.{◌≡◌, ◌∙◌, ◌+◌, ℕ, Bool, List, [], ◌∷◌, Option, Some, None, Result, Ok, Err, refl, ap, sym, arith}
use Rattle.std.specs.List.{cons_option, filter_map, sum_by}
use Rattle.std.specs.Option.{option_map, option_map_or}
use Rattle.std.specs.FinMap.{empty}
use Rattle.std.proofs.lemmas.List.Sums.{sum_by-cons}
use Rattle.mt_tokens.specs.Transform.{Transformed, transformed}
use Rattle.mt_tokens.specs.declared.source.PathKind.{PathKind}
use Rattle.mt_tokens.specs.declared.source.SourceFault.{SourceFault}
use Rattle.mt_package.specs.declared.options.Options.{Options}
use Rattle.mt_files.specs.Asks.{Ask}
use Rattle.mt_files.specs.Edges.{kind_of}
use Rattle.mt_files.specs.Reach.{reach, source_entries}
use Rattle.mt_files.specs.Snapshots.{Snapshot, source_at}
use Rattle.mt_transform.specs.Outputs.{output_made}
use Rattle.mt_graph.specs.Explored.{explored}
use Rattle.mt_graph.specs.Founds.{found_at, found_in}
use Rattle.mt_graph.specs.declared.found.Found.{Found}
use Rattle.mt_graph.proofs.Explored.{entries_explored}
use Rattle.mt_fresh.specs.Calls.{calls_at, calls_in, calls_made, calls_of, dynamic_calls}

-- an output has the calls of what its source became
calls_kept : (strip : Bool) (kind : PathKind) (source : List ℕ) (t : Result Transformed SourceFault) → calls_made (output_made strip kind source t) ≡ calls_of t
calls_kept strip kind source (Ok t) = refl
calls_kept strip kind source (Err fault) = refl

module _ (options : Options) (files : Snapshot) where
  calls_here :
      (p : List ℕ) (s : Option (List ℕ)) (rest : List Found)
      → calls_in (cons_option (option_map (found_at options files p) s) rest) ≡ option_map_or calls_of (option_map (transformed options.strip (kind_of p)) s) 0 + calls_in rest
  calls_here p None rest = omega arith
  calls_here p (Some source) rest =
      sum_by-cons (λ (found : Found). calls_made found.made) (found_at options files p source) rest
      ∙ ap (λ n. n + calls_in rest) (calls_kept options.strip (kind_of p) source (transformed options.strip (kind_of p) source))

  -- what is found at some paths has the calls of the modules there
  calls_along : (ps : List (List ℕ)) → calls_in (filter_map (found_in options files) ps) ≡ sum_by (calls_at options files) ps
  calls_along [] = refl
  calls_along (p ∷ ps) =
      calls_here p (source_at files p) (filter_map (found_in options files) ps)
      ∙ ap (λ n. calls_at options files p + n) (calls_along ps) ∙ sym (sum_by-cons (calls_at options files) p ps)

-- what is explored from the entries has the calls of all modules that they reach
pub calls_explored : (ask : Ask) (files : Snapshot) → calls_in (explored ask.options files (source_entries ask files) empty) ≡ dynamic_calls ask files
calls_explored ask files = ap (λ ps. calls_in (filter_map (found_in ask.options files) ps)) (entries_explored ask files) ∙ calls_along ask.options files (reach ask files)
