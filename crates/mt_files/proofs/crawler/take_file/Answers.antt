use Rattle.std.proofs.Common.{◌≡◌, ◌≤◌, ◌<◌, ◌∙◌, true, false, arith, inl, inr, ap, sym}
use Rattle.std.specs.FinMap.{len}
use Rattle.mt_path.specs.Names.{is_source}
use Rattle.mt_files.specs.Crawl.{max_files, with_other}
use Rattle.mt_files.specs.declared.crawler.PartialSnapshot.{PartialSnapshot}
use Rattle.mt_files.specs.Snapshots.{Snapshot}
use Rattle.mt_files.proofs.WithFiles.{few_more}
use Rattle.mt_files.proofs.CrawlReads.{taken_many, taken_other, taken_source}
use Rattle.mt_files.proofs.crawler.take_file.Goals as goal

pub returns-then-len-ge-MAX_FILES-clause-taken : goal.returns-then-len-ge-MAX_FILES-clause-taken
returns-then-len-ge-MAX_FILES-clause-taken g c =
    let many : max_files ≤ len c.args.part.now.files = omega arith in
    inr (inr (taken_many g.F.Folder.reads (g.F.Folder.seen c.args.folder.now) c.args.path.now c.args.part.now many))

pub returns-then-is_source-clause-taken : goal.returns-then-is_source-clause-taken
returns-then-is_source-clause-taken g c =
    let few : len c.args.part.now.files < max_files = omega arith in
    let source : is_source c.args.path.now ≡ true = sym c.is_source.ensures.exact ∙ c.if-is_source.true in
    elim (rw c.in_ok-clone.ensures.cases at c.take_source.ensures.exact) [
      | inl e ↦ inl e
      | inr step ↦ inr (inr (taken_source g.F.Folder.reads (g.F.Folder.seen c.args.folder.now) c.args.path.now c.args.part.now c.take_source.new.part c.in_ok-bytes.bytes c.take_source.result few source c.in_ok-bytes.ensures.given c.in_ok-bytes.ensures.bytes step))
    ]

pub returns-clause-taken : goal.returns-clause-taken
returns-clause-taken g c =
    let few : len c.args.part.now.files < max_files = omega arith in
    let source : is_source c.args.path.now ≡ false = sym c.is_source.ensures.exact ∙ c.if-is_source.false in
    let added = rw c.in_ok-clone-2.ensures.cases at c.in_ok-insert.ensures.ok in
    let part : PartialSnapshot = record { files = c.insert.new.self; bytes = c.args.part.now.bytes } in
    let is : part ≡ with_other c.args.path.now c.args.part.now = ap (λ (files : Snapshot). record { files = files; bytes = c.args.part.now.bytes }) added in
    inr (inr (taken_other g.F.Folder.reads (g.F.Folder.seen c.args.folder.now) c.args.path.now c.args.part.now part is few source))

pub returns-clause-few : goal.returns-clause-few
returns-clause-few g c =
    let few : len c.args.part.now.files < max_files = omega arith in
    λ _. few_more c.args.part.now.files c.insert.new.self _ _ c.in_ok-insert.ensures.ok few
