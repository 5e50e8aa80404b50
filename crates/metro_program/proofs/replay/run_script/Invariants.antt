use Rattle.std.proofs.Common.{◌≡◌, ◌≤◌, None}
use Rattle.mt_io.specs.Seen.{Looks, Tells}
use Rattle.mt_io.specs.Told.{Reading}
use Rattle.metro_program.specs.Progress.{HasDone, HasRead, IsBegun, Start}
use Rattle.metro_program.proofs.replay.run_script.Given as goal

abbrev pub invariant-loop-turn : goal.invariant-loop-turn
invariant-loop-turn g l = record {
  on : g.X.Explorer.sure l.fn.explorer → (start : Start) → IsBegun start l.fn.full l.fn.state (record { folder = g.F.Folder.seen l.fn.folder; script = g.I.Source.seen l.fn.script; out = g.O.Sink.seen l.fn.out }) → HasDone start l.state l.reader (g.I.Source.seen l.script).told (g.O.Sink.seen l.out);
  has : (reading : Reading) → Tells (g.I.Source.seen l.fn.script) reading → HasRead reading l.reader (g.I.Source.seen l.script).told;
  kept : g.X.Explorer.sure l.fn.explorer → g.X.Explorer.sure l.explorer;
  going : l.reader.fault ≡ None;
  folder : Looks (g.F.Folder.seen l.fn.folder) (g.F.Folder.seen l.folder) ⊥;
  script_later : (g.I.Source.seen l.fn.script).faults ≤ (g.I.Source.seen l.script).faults;
  script_apart : (g.I.Source.seen l.script).beside ≡ (g.I.Source.seen l.fn.script).beside;
  out_later : (g.O.Sink.seen l.fn.out).faults ≤ (g.O.Sink.seen l.out).faults;
  out_apart : (g.O.Sink.seen l.out).beside ≡ (g.O.Sink.seen l.fn.out).beside;
}
