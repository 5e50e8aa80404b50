-- The modules that a traversal has visited, and the paths that wait.
use Rattle.std.specs.Prelude.{ℕ, Bool, not, ◌&&◌, List, map, if◌then◌else◌, [], unwrap_or}
use Rattle.std.specs.List.{fold}
use Rattle.std.specs.Ordering.{nat_cmp}
use Rattle.std.specs.Cmp.Lexicographic.{slice_cmp}
use Rattle.std.specs.FinMap.{FinMap, contains_key, from_entries, insert}
use Rattle.std.specs.Str.{bytes_eq}
use Rattle.mt_package.specs.declared.options.Options.{Options}
use Rattle.mt_files.specs.Snapshots.{Snapshot, source_at}
use Rattle.mt_files.specs.declared.target.Link.{Link}
use Rattle.mt_files.specs.declared.target.Target.{Target}
use Rattle.mt_files.specs.declared.target.Target.TheVariants as target
use Rattle.mt_graph.specs.Founds.{links_of, made_of}
use Rattle.mt_graph.specs.Explored.{Known, explored_paths}
use Rattle.mt_graph.specs.declared.found.Found.{Found}
use Rattle.mt_fresh.specs.declared.traversal.Visit.{Visit}

-- the modules visited, by their paths
abbrev pub VisitMap : Type 0
VisitMap = FinMap (slice_cmp nat_cmp) Visit

-- what a visit of a path with this source finds
abbrev pub visit_of : Options → Snapshot → List ℕ → List ℕ → Visit
visit_of options files path source = record { made = made_of options path source; links = links_of options files path (made_of options path source) }

-- what a visit of a source finds
abbrev pub visit_at : Options → Snapshot → List ℕ → Visit
visit_at options files path = visit_of options files path (unwrap_or (source_at files path) [])

-- the modules to which seeds lead, visited
abbrev pub visits_of : Options → Snapshot → List (List ℕ) → Known → VisitMap
visits_of options files seeds known = from_entries (map (λ path. (path, visit_at options files path)) (explored_paths options files seeds known))

-- what was visited at a path, with the path
abbrev pub found_of : List ℕ × Visit → Found
found_of (path, visit) = record { path = path; made = visit.made; links = visit.links }

-- a path to which a module leads is new where it is not that module, not known and not visited, and does not wait
abbrev pub is_new : List ℕ → Known → VisitMap → Known → List ℕ → Bool
is_new origin known visits waiting path = not (bytes_eq path origin) && not (contains_key known path) && not (contains_key visits path) && not (contains_key waiting path)

-- the paths that wait with that to which a module leads, where it is a new source
abbrev pub waiting_with : List ℕ → Known → VisitMap → Known → Target → Known
waiting_with origin known visits waiting (target.File path) = if is_new origin known visits waiting path then insert waiting path tt else waiting
waiting_with origin known visits waiting target.None = waiting
waiting_with origin known visits waiting (target.BadPackage path) = waiting

-- the same with each of its links
abbrev pub waiting_with_all : List ℕ → Known → VisitMap → Known → List Link → Known
waiting_with_all origin known visits waiting links = fold (λ w link. waiting_with origin known visits w link.target) waiting links
