use Rattle.std.proofs.Common.{◌∙◌, rules, inl, inr, ap}
use Rattle.std.specs.Prelude.{Ok}
use Rattle.mt_files.specs.Crawl.{files_of, no_files, with_files}
use Rattle.mt_files.proofs.CrawlReads.{described, described_made, described_tree, read_sources}
use Rattle.mt_files.proofs.crawler.crawl.Goals as goal

pub returns-clause-exact : goal.returns-clause-exact
returns-clause-exact g c =
    λ tree tells.
    elim c.take_files.ensures.read [
      | inl e ↦ inl e
      | inr (inl e) ↦ inr (inl e)
      | inr (inr r) ↦
          inr (inr (r.made tree (r.told tree (search rules)) ∙ ap (λ ks. files_of (with_files tree (Ok no_files) ks)) (c.in_ok-paths.ensures.found tree (search rules))))
    ]

pub returns-clause-described : goal.returns-clause-described
returns-clause-described g c =
    elim c.take_files.ensures.read [
      | inl e ↦ inl e
      | inr (inl e) ↦ inr (inl e)
      | inr (inr r) ↦
          inr (inr (
            described_tree c.in_ok-paths.paths r.read,
            described g.F.Folder.lists g.F.Folder.reads (g.F.Folder.seen c.find_files.new.folder) c.in_ok-paths.paths c.take_files.result r c.in_ok-paths.ensures.listed,
            described_made g.F.Folder.lists g.F.Folder.reads (g.F.Folder.seen c.find_files.new.folder) c.in_ok-paths.paths c.take_files.result r c.in_ok-paths.ensures.met,
          ))
    ]

pub returns-clause-read : goal.returns-clause-read
returns-clause-read g c = read_sources g.F.Folder.reads (g.F.Folder.seen c.find_files.new.folder) c.in_ok-paths.paths c.take_files.result c.take_files.ensures.read
