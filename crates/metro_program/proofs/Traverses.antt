-- What a traversal answers of what is asked for.
use Rattle.std.proofs.Common.{◌⊎◌, ◌≡◌, ℕ, List, Result, Err, subst}
use Rattle.std.specs.Prelude.{IfOk}
use Rattle.mt_package.specs.declared.options.Options.{Options}
use Rattle.mt_files.specs.Asks.{Ask}
use Rattle.mt_files.specs.Snapshots.{Snapshot}
use Rattle.mt_files.specs.declared.build_fault.BuildFault.{BuildFault}
use Rattle.mt_files.specs.declared.build_fault.BuildFault.TheVariants.{NoMemory}
use Rattle.mt_graph.specs.Graphs.{GraphMap, fresh_graph}
use Rattle.mt_fresh.specs.JudgedGraphs.{IsGraphOf}

-- what a traversal answers
abbrev pub Traverses : Ask → Snapshot → Result GraphMap BuildFault → Type 0
Traverses ask files r = (r ≡ Err NoMemory) ⊎ (r ≡ fresh_graph ask files)

pub traverses_as : (ask : Ask) (options : Options) (entries : List (List ℕ)) (files : Snapshot) (r : Result GraphMap BuildFault) → options ≡ ask.options → entries ≡ ask.entries → Traverses (record { options = options; entries = entries }) files r → Traverses ask files r
traverses_as ask options entries files r o e h =
    subst (λ x. Traverses (record { options = ask.options; entries = x }) files r) e (subst (λ x. Traverses (record { options = x; entries = entries }) files r) o h)

-- the graph that a traversal answers, as it was asked for
pub judged_as :
    {E : Type 0} (ask : Ask) (options : Options) (entries : List (List ℕ)) (files : Snapshot) (r : Result GraphMap E) → options ≡ ask.options → entries ≡ ask.entries → IfOk r (IsGraphOf (record { options = options; entries = entries }) files)
    → IfOk r (IsGraphOf ask files)
judged_as ask options entries files r o e h =
    subst (λ x. IfOk r (IsGraphOf (record { options = ask.options; entries = x }) files)) e (subst (λ x. IfOk r (IsGraphOf (record { options = x; entries = entries }) files)) o h)
