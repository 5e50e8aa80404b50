use Rattle.std.proofs.Common.{rules, ap, codes, ◌++◌, drop, List, ℕ}
use Rattle.mt_write.specs.Modules.{escaped, quoted_path}
use Rattle.mt_write.proofs.Buffered.{buffer_stopped_at, buffer_stopped_more}
use Rattle.mt_write.proofs.slots.put_quoted_path.Goals as goal

pub returns-in_err-put : goal.returns-in_err-put
returns-in_err-put g c = let h = buffer_stopped_more _ _ _ (codes ",\"") (escaped (drop 1 c.args.path.now) ++ codes "\"") c.in_err-put.ensures.stop in search rules

pub returns-in_err-put_escaped : goal.returns-in_err-put_escaped
returns-in_err-put_escaped g c =
    let h = buffer_stopped_at _ _ _ _ _ _ (escaped c.without_slash.result.now) (codes "\"") (quoted_path c.args.path.now) c.in_ok-put.ensures.all c.in_err-put_escaped.ensures.stop
    (ap (λ (t : List ℕ). codes ",\"" ++ escaped t ++ codes "\"") c.without_slash.ensures) in
    search rules
