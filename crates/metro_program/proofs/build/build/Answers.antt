use Rattle.std.proofs.Common.{rules, ◌≡◌, None}
use Rattle.metro_program.specs.Builds.{same_number}
use Rattle.metro_program.proofs.Refusals.{built_state, built_writes, refused_state, refused_writes}
use Rattle.metro_program.proofs.build.build.Goals as goal

pub returns-in-Ok-clause-state : goal.returns-in-Ok-clause-state
returns-in-Ok-clause-state g c = λ sure.
    let new : same_number c.args.state.now ≡ None = search rules in
    built_state c.args.state.now c.accept.new.state (g.O.Sink.seen c.args.out.now) (g.O.Sink.seen c.accept.new.out) c.accept.result new c.in-Ok.build (c.in-Ok.ensures.exact sure) c.accept.ensures.state

pub returns-in-Ok-clause-writes : goal.returns-in-Ok-clause-writes
returns-in-Ok-clause-writes g c = λ sure.
    let new : same_number c.args.state.now ≡ None = search rules in
    built_writes c.args.state.now c.accept.new.state (g.O.Sink.seen c.args.out.now) (g.O.Sink.seen c.accept.new.out) c.accept.result new c.args.full c.in-Ok.build (c.in-Ok.ensures.exact sure) c.accept.ensures.writes

pub returns-in-Err-clause-state : goal.returns-in-Err-clause-state
returns-in-Err-clause-state g c = λ sure.
    let new : same_number c.args.state.now ≡ None = search rules in
    refused_state c.args.state.now c.refuse_or_stop.new.state (g.O.Sink.seen c.args.out.now) (g.O.Sink.seen c.refuse_or_stop.new.out) c.refuse_or_stop.result new c.in-Err.fault (c.in-Err.ensures.exact sure) c.refuse_or_stop.ensures.stops c.refuse_or_stop.ensures.state

pub returns-in-Err-clause-writes : goal.returns-in-Err-clause-writes
returns-in-Err-clause-writes g c = λ sure.
    let new : same_number c.args.state.now ≡ None = search rules in
    refused_writes c.args.state.now c.refuse_or_stop.new.state (g.O.Sink.seen c.args.out.now) (g.O.Sink.seen c.refuse_or_stop.new.out) c.refuse_or_stop.result new c.args.full c.in-Err.fault (c.in-Err.ensures.exact sure) c.refuse_or_stop.ensures.stops c.refuse_or_stop.ensures.writes

pub returns-in-Ok-clause-line : goal.returns-in-Ok-clause-line
returns-in-Ok-clause-line g c = (_, c.accept.ensures.writes)

pub returns-in-Err-clause-line : goal.returns-in-Err-clause-line
returns-in-Err-clause-line g c = (_, c.refuse_or_stop.ensures.writes)
