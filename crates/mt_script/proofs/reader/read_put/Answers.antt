use Rattle.std.proofs.Common.{◌∙◌, sym, ap, Err}
use Rattle.std.proofs.lemmas.List.{get_or_read}
use Rattle.mt_script.proofs.Faults.{failed_from}
use Rattle.mt_script.proofs.Finds.{put_failed, put_refused, put_taken, taken_inside}
use Rattle.mt_script.proofs.reader.read_put.Goals as goal

pub returns-then-index-ne10-clause-refused : goal.returns-then-index-ne10-clause-refused
returns-then-index-ne10-clause-refused g c = λ r e.
    let t = rw c.in-Some.is at (c.in_ok-bytes.ensures.taken r e) in
    let read = get_or_read c.in-Some.bytes.items c.args.size c.index.result.now (taken_inside r _ _ _ c.args.size c.in-Some.bytes.items t) c.index.ensures 0 in
    put_refused c.args.count c.args.path c.args.size r _ _ _ c.in-Some.bytes.items t (λ same. c.if-index-ne10.true (read ∙ same))

pub returns-clause-found : goal.returns-clause-found
returns-clause-found g c = λ r e.
    let t = rw c.in-Some.is at (c.in_ok-bytes.ensures.taken r e) in
    let read = get_or_read c.in-Some.bytes.items c.args.size c.index.result.now (taken_inside r _ _ _ c.args.size c.in-Some.bytes.items t) c.index.ensures 0 in
    put_taken c.args.count c.args.path c.args.size r _ _ _ c.in-Some.bytes.items c.from_vec.result t (sym read ∙ c.if-index-ne10.false) (c.from_vec.ensures.bytes ∙ c.truncate.ensures.items)

pub returns-in_err-bytes-clause-interrupted : goal.returns-in_err-bytes-clause-interrupted
returns-in_err-bytes-clause-interrupted g c = λ r e failed.
    put_failed c.args.count c.args.path c.args.size r _ _ (c.in_err-bytes.ensures.short r e (ap Err (failed_from c.in_err-bytes.field-0.0 c.from_residual.result c.from_residual.ensures.1 failed)))
