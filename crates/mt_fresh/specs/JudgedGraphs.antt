-- What the graph of a build is, be its outputs right or not.
use Rattle.std.specs.Prelude.{◌≡◌, ◌≤◌, true}
use Rattle.std.specs.List.{All}
use Rattle.std.specs.FinMap.{contains_key, keys, len}
use Rattle.mt_files.specs.Asks.{Ask}
use Rattle.mt_files.specs.Fresh.{max_modules}
use Rattle.mt_files.specs.Snapshots.{Snapshot, has_source}
use Rattle.mt_graph.specs.Graphs.{GraphMap}

-- it has no more modules than a build may have, each is a source, and the entries are among them
pub record IsGraphOf (ask : Ask) (files : Snapshot) (graph : GraphMap) : Type 0 where
  pub few : len graph ≤ max_modules
  pub there : All (λ path. has_source files path ≡ true) (keys graph)
  pub entries : All (λ entry. contains_key graph entry ≡ true) ask.entries
