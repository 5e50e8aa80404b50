use Rattle.std.proofs.Common.{None, [], ap, refl, ◌∙◌, arith}
use Rattle.metro_program.proofs.HasDone.{first_done, memory_ends, memory_word}
use Rattle.metro_program.proofs.HasRead.{first_read, memory_reason}
use Rattle.metro_program.proofs.Writes.{looks_none, looks_then}
use Rattle.metro_program.proofs.replay.run_script.Goals as goal

pub returns-in-Err-clause-ends : goal.returns-in-Err-clause-ends
returns-in-Err-clause-ends g c = λ sure start begun.
    let first = begun.faults in
    let later = c.loop-turn.invariant.folder.later in
    c.in-Err.ensures.ends (c.loop-turn.invariant.kept sure) start begun.whole (c.loop-turn.invariant.folder.same ∙ begun.folder) (omega (arith, first, later)) (c.loop-turn.invariant.on sure start begun)

pub returns-clause-ends : goal.returns-clause-ends
returns-clause-ends g c = λ sure start begun.
    memory_ends start c.loop-turn.state c.loop-turn.reader (g.I.Source.seen c.loop-turn.script).told (g.O.Sink.seen c.loop-turn.out) (c.loop-turn.invariant.on sure start begun)
    (record { folder = g.F.Folder.seen c.loop-turn.folder; script = g.I.Source.seen c.loop-turn.script; out = g.O.Sink.seen c.loop-turn.out }) refl

pub returns-in_default-clause-ends : goal.returns-in_default-clause-ends
returns-in_default-clause-ends g c = λ sure start begun.
    memory_ends start c.args.state (record { held = []; count = 0; fault = None }) (g.I.Source.seen c.args.script.now).told (g.O.Sink.seen c.args.out.now)
    (first_done start c.args.state (record { held = []; count = 0; fault = None }) (g.I.Source.seen c.args.script.now).told (g.O.Sink.seen c.args.out.now) begun.script refl refl begun.leads)
    (record { folder = g.F.Folder.seen c.args.folder.now; script = g.I.Source.seen c.args.script.now; out = g.O.Sink.seen c.args.out.now }) refl

pub loop-turn-init : goal.loop-turn-init
loop-turn-init g c = record {
  on = λ sure start begun. first_done start c.args.state c.in-Ok.reader (g.I.Source.seen c.args.script.now).told (g.O.Sink.seen c.args.out.now) begun.script (ap (λ p. p.held) c.in-Ok.ensures.empty) (ap (λ p. p.count) c.in-Ok.ensures.empty) begun.leads;
  has = λ reading tells. first_read reading c.in-Ok.reader (g.I.Source.seen c.args.script.now).told tells (ap (λ p. p.held) c.in-Ok.ensures.empty) (ap (λ p. p.count) c.in-Ok.ensures.empty);
  kept = λ sure. sure;
  going = ap (λ p. p.fault) c.in-Ok.ensures.empty;
  folder = looks_none (g.F.Folder.seen c.args.folder.now);
  script_later = omega arith;
  script_apart = refl;
  out_later = omega arith;
  out_apart = refl;
}

pub loop-turn-preserved : goal.loop-turn-preserved
loop-turn-preserved g c =
    let script_one = c.loop-turn.invariant.script_later in
    let script_two = c.turn.ensures.script_later in
    let out_one = c.loop-turn.invariant.out_later in
    let out_two = c.turn.ensures.out_later in
    record {
      on = λ sure start begun. c.in_default-turn.ensures.on (c.loop-turn.invariant.kept sure) start begun.whole (c.loop-turn.invariant.folder.same ∙ begun.folder) (c.loop-turn.invariant.on sure start begun);
      has = λ reading tells. c.in_default-turn.ensures.has reading (c.loop-turn.invariant.has reading tells);
      kept = λ sure. c.turn.ensures.kept (c.loop-turn.invariant.kept sure);
      going = c.in_default-turn.ensures.going;
      folder = looks_then (g.F.Folder.seen c.args.folder.now) (g.F.Folder.seen c.loop-turn.folder) (g.F.Folder.seen c.turn.new.folder) c.loop-turn.invariant.folder c.turn.ensures.folder;
      script_later = omega (arith, script_one, script_two);
      script_apart = c.turn.ensures.script_apart ∙ c.loop-turn.invariant.script_apart;
      out_later = omega (arith, out_one, out_two);
      out_apart = c.turn.ensures.out_apart ∙ c.loop-turn.invariant.out_apart;
    }

pub returns-in-Err-clause-word : goal.returns-in-Err-clause-word
returns-in-Err-clause-word g c = c.in-Err.ensures.word

pub returns-clause-word : goal.returns-clause-word
returns-clause-word g c = memory_word

pub returns-in_default-clause-word : goal.returns-in_default-clause-word
returns-in_default-clause-word g c = memory_word

pub returns-in-Err-clause-reason : goal.returns-in-Err-clause-reason
returns-in-Err-clause-reason g c = λ reading tells. c.in-Err.ensures.reason reading (c.loop-turn.invariant.has reading tells)

pub returns-clause-reason : goal.returns-clause-reason
returns-clause-reason g c = λ reading tells. memory_reason reading

pub returns-in_default-clause-reason : goal.returns-in_default-clause-reason
returns-in_default-clause-reason g c = λ reading tells. memory_reason reading
