use Rattle.std.proofs.Common.{◌≡◌, [], ◌∷◌, ◌∙◌, rules, refl, sym, inl, inr, arith}
use Rattle.std.specs.FinMap.{keys}
use Rattle.mt_containers.proofs.Members.{contains_head}
use Rattle.mt_files.proofs.WithFiles.{few_none}
use Rattle.mt_files.proofs.CrawlReads.{fault_ends, reading_done, reading_fault, reading_more, reading_start, taken_at}
use Rattle.mt_files.proofs.Searches.{met_there}
use Rattle.mt_files.proofs.crawler.take_files.Goals as goal

pub loop-path-init : goal.loop-path-init
loop-path-init g c =
    let all : c.into_iter-path-iterator.result ≡ keys c.args.paths.now = c.into_iter-path-iterator.ensures.into_iter_gives ∙ c.keys-path-items.ensures.rest in
    record {
      reading = rw (all, c.new.ensures.empty) (reading_start g.F.Folder.reads (g.F.Folder.seen c.args.folder.now) c.args.paths.now);
      few = few_none _ c.new.ensures.empty;
      same = refl;
      apart = refl;
      later = omega arith;
    }

pub take_file-requires : goal.take_file-requires
take_file-requires g c =
    let cut : c.loop-path.path-iterator ≡ c.in-Some.path.now ∷ c.next.new.self = search rules in
    let reading = rw cut at c.loop-path.invariant.reading in
    record {
      there = λ tree tells.
          met_there tree c.args.paths.now c.in-Some.path.now (c.requires.there tree (sym c.loop-path.invariant.same ∙ tells))
          (reading.known c.in-Some.path.now (contains_head c.in-Some.path.now c.next.new.self));
    }

pub returns-in-Err-clause-read : goal.returns-in-Err-clause-read
returns-in-Err-clause-read g c =
    let cut : c.loop-path.path-iterator ≡ c.in-Some.path.now ∷ c.next.new.self = search rules in
    fault_ends c.in-Err.fault _ _
    (λ t.
    reading_fault g.F.Folder.reads (g.F.Folder.seen c.args.folder.now) c.args.paths.now c.in-Some.path.now c.next.new.self c.loop-path.part (rw cut at c.loop-path.invariant.reading) c.take_file.new.part c.in-Err.fault
    (taken_at g.F.Folder.reads (g.F.Folder.seen c.loop-path.folder) (g.F.Folder.seen c.args.folder.now) c.in-Some.path.now c.loop-path.part c.take_file.new.part _ (sym c.loop-path.invariant.same) t))
    c.in-Err.ensures.taken

pub loop-path-preserved : goal.loop-path-preserved
loop-path-preserved g c =
    let cut : c.loop-path.path-iterator ≡ c.in-Some.path.now ∷ c.next.new.self = search rules in
    record {
      reading = elim c.in_default.ensures.taken [
        | inl e ↦ absurd (cc)
        | inr (inl e) ↦ absurd (cc)
        | inr (inr t) ↦
            reading_more g.F.Folder.reads (g.F.Folder.seen c.args.folder.now) c.args.paths.now c.in-Some.path.now c.next.new.self c.loop-path.part (rw cut at c.loop-path.invariant.reading) c.take_file.new.part
            (taken_at g.F.Folder.reads (g.F.Folder.seen c.loop-path.folder) (g.F.Folder.seen c.args.folder.now) c.in-Some.path.now c.loop-path.part c.take_file.new.part _ (sym c.loop-path.invariant.same) t)
      ];
      few = c.in_default.ensures.few c.loop-path.invariant.few;
      same = c.in_default.ensures.looks.same ∙ c.loop-path.invariant.same;
      apart = c.in_default.ensures.looks.apart ∙ c.loop-path.invariant.apart;
      later = omega arith;
    }

pub returns-clause-read : goal.returns-clause-read
returns-clause-read g c =
    let none : c.loop-path.path-iterator ≡ [] = search rules in
    inr (inr (reading_done g.F.Folder.reads (g.F.Folder.seen c.args.folder.now) c.args.paths.now c.loop-path.part (rw none at c.loop-path.invariant.reading)))
