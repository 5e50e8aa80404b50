use Rattle.std.proofs.Common.{◌≡◌, ◌≤◌}
use Rattle.std.specs.FinMap.{len}
use Rattle.mt_files.specs.Crawl.{max_files}
use Rattle.mt_files.proofs.CrawlReads.{IsReading}
use Rattle.mt_files.proofs.crawler.take_files.Given as goal

abbrev pub invariant-loop-path : goal.invariant-loop-path
invariant-loop-path g l = record {
  reading : IsReading g.F.Folder.reads (g.F.Folder.seen l.fn.folder) l.paths l.path-iterator l.part;
  few : len l.part.files ≤ max_files;
  same : (g.F.Folder.seen l.folder).told ≡ (g.F.Folder.seen l.fn.folder).told;
  apart : (g.F.Folder.seen l.folder).beside ≡ (g.F.Folder.seen l.fn.folder).beside;
  later : (g.F.Folder.seen l.initial.folder).faults ≤ (g.F.Folder.seen l.folder).faults;
}
