use Rattle.std.proofs.Common.{◌≡◌, ◌≤◌}
use Rattle.std.specs.FinMap.{contains_key}
use Rattle.mt_io.specs.Files.{Files}
use Rattle.mt_io.specs.Seen.{Tells}
use Rattle.mt_files.specs.Listings.{IsListed}
use Rattle.mt_files.specs.Search.{IsSearched, IsShown}
use Rattle.mt_files.proofs.search.find_files.Given as goal

abbrev pub invariant-loop-turn : goal.invariant-loop-turn
invariant-loop-turn g l = record {
  shown : IsShown l.met l.places;
  searched : (tree : Files) → Tells (g.F.Folder.seen l.fn.folder) tree → IsSearched tree l.met l.places;
  listed : IsListed g.F.Folder.lists (contains_key l.met) l.places;
  same : (g.F.Folder.seen l.folder).told ≡ (g.F.Folder.seen l.fn.folder).told;
  apart : (g.F.Folder.seen l.folder).beside ≡ (g.F.Folder.seen l.fn.folder).beside;
  later : (g.F.Folder.seen l.initial.folder).faults ≤ (g.F.Folder.seen l.folder).faults;
}
