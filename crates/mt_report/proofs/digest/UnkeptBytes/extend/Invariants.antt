use Rattle.std.proofs.Common.{◌≡◌, ◌++◌, take}
use Rattle.mt_report.proofs.digest.UnkeptBytes.extend.Given as goal

abbrev pub invariant-loop-i : goal.invariant-loop-i
invariant-loop-i l = l.self ≡ l.initial.self ++ take l.i l.bytes
