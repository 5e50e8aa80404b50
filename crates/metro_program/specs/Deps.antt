-- What `deps` writes, and how it ends.
use Rattle.std.specs.Prelude.{◌≡◌, ℕ, List, [], map, Ok}
use Rattle.std.specs.List.{flat_map}
use Rattle.mt_io.specs.Files.{Files}
use Rattle.mt_package.specs.declared.options.Options.{Options}
use Rattle.mt_files.specs.Asks.{Ask}
use Rattle.mt_files.specs.Crawl.{crawled}
use Rattle.mt_files.specs.Edges.{edges}
use Rattle.mt_files.specs.Fresh.{all_faults}
use Rattle.mt_files.specs.Snapshots.{Snapshot}
use Rattle.mt_write.specs.declared.slot.Slot.{Slot}
use Rattle.mt_write.specs.declared.slot.Slot.TheVariants.{Module}
use Rattle.mt_revision.specs.Contents.{by_number}
use Rattle.mt_revision.specs.Numberings.{number_in}
use Rattle.mt_fresh.specs.Calls.{calls_at}
use Rattle.mt_report.specs.Listings.{graph_line, graph_lines}
use Rattle.mt_report.specs.Outcomes.{status_of}
use Rattle.metro_program.specs.First.{WritesFirst, first_numbering, first_plan}
use Rattle.metro_program.specs.Plans.{Plan}

-- the plan of a folder of these files: the lines of the modules of the first build
abbrev pub deps_plan : Ask → Files → Plan
deps_plan ask tree = first_plan graph_lines ask tree

-- ---- what it says

-- a module is named by its number
abbrev pub numbered : List (List ℕ) → List ℕ → Slot
numbered numbering path = Module (number_in numbering path)

-- the line of the module at a path: its number, how many of its calls name what only a run can tell, the modules that it requires, in the order of its names, and the path
abbrev pub line_at : Options → List (List ℕ) → Snapshot → List ℕ → List ℕ
line_at options numbering files path = graph_line (number_in numbering path) (calls_at options files path) (map (numbered numbering) (edges options files path)) path

-- the lines of the modules that the entries reach, by ascending number
abbrev pub lines_at : Ask → List (List ℕ) → Snapshot → List ℕ
lines_at ask numbering files = flat_map (line_at ask.options numbering files) (by_number ask numbering files)

-- the bytes are the lines of the folder's files, which have no fault
pub record IsGraph (ask : Ask) (tree : Files) (bytes : List ℕ) : Type 0 where
  pub files : Snapshot
  pub taken : crawled tree ≡ Ok files
  pub faultless : all_faults ask files ≡ []
  pub lines : bytes ≡ lines_at ask (first_numbering ask files) files

-- what the plan of a graph says
pub record PrintsGraph (ask : Ask) (tree : Files) (plan : Plan) : Type 0 where
  -- it writes the lines of the first build, or how it ends without one
  pub first : WritesFirst graph_lines ask tree plan
  -- what is written with status 0 is told by the files alone
  pub graph : status_of plan.outcome ≡ 0 → IsGraph ask tree plan.bytes
