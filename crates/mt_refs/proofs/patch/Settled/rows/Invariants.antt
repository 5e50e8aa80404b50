use Rattle.std.proofs.Common.{ℕ, List, ◌<◌, get_or}
use Rattle.mt_refs.proofs.patch.Settled.rows.Given as goal

abbrev pub invariant-loop-one : goal.invariant-loop-one
invariant-loop-one l = (k : ℕ) (d : ℕ × List ℕ) → k < l.one-index → (get_or l.set k d).0 < l.rows
