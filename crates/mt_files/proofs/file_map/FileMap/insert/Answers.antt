use Rattle.std.proofs.Common.{sym, subst}
use Rattle.mt_files.specs.Snapshots.{IsSnapshot}
use Rattle.mt_files.proofs.Snapshots.{insert_kept}
use Rattle.mt_files.proofs.file_map.FileMap.insert.Goals as goal

pub invariant_of-self : goal.invariant_of-self
invariant_of-self c = subst IsSnapshot (sym c.in_err-insert.ensures.err) c.self.invariant

pub invariant_of-self-2 : goal.invariant_of-self-2
invariant_of-self-2 c = subst IsSnapshot (sym c.in_ok-insert.ensures.ok) (insert_kept _ c.args.path c.args.entry c.self.invariant c.as_str-text.ensures.path c.requires)
