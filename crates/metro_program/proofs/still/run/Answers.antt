use Rattle.mt_request.specs.declared.growth.Action.TheVariants.{Bundle, Deps, Check, Replay, Grow}
use Rattle.std.proofs.Common.{refl}
use Rattle.metro_program.specs.Grow.{grow_plan}
use Rattle.metro_program.proofs.Owes.{action_causes, action_request, files_causes, kept_owes}
use Rattle.metro_program.proofs.still.run.Goals as goal

pub returns-in-Bundle-clause-owes : goal.returns-in-Bundle-clause-owes
returns-in-Bundle-clause-owes g c = λ sure. action_request Bundle c.args.request _ _ c.run_bundle.result c.in-Bundle.is (c.run_bundle.ensures.owes sure (g.I.Source.seen c.args.script.now))

pub returns-in-Deps-clause-owes : goal.returns-in-Deps-clause-owes
returns-in-Deps-clause-owes g c = λ sure. action_request Deps c.args.request _ _ c.run_deps.result c.in-Deps.is (c.run_deps.ensures.owes sure (g.I.Source.seen c.args.script.now))

pub returns-in-Check-clause-owes : goal.returns-in-Check-clause-owes
returns-in-Check-clause-owes g c = λ sure. action_request Check c.args.request _ _ c.run_check.result c.in-Check.is (c.run_check.ensures.owes (g.I.Source.seen c.args.script.now))

pub returns-in-Replay-clause-owes : goal.returns-in-Replay-clause-owes
returns-in-Replay-clause-owes g c = λ sure. action_request Replay c.args.request _ _ c.run_replay.result c.in-Replay.is (c.run_replay.ensures.owes sure)

pub returns-in-Bundle-clause-causes : goal.returns-in-Bundle-clause-causes
returns-in-Bundle-clause-causes g c = action_causes Bundle c.args.request _ _ c.run_bundle.result c.in-Bundle.is (c.run_bundle.ensures.causes (g.I.Source.seen c.args.script.now))

pub returns-in-Deps-clause-causes : goal.returns-in-Deps-clause-causes
returns-in-Deps-clause-causes g c = action_causes Deps c.args.request _ _ c.run_deps.result c.in-Deps.is (c.run_deps.ensures.causes (g.I.Source.seen c.args.script.now))

pub returns-in-Check-clause-causes : goal.returns-in-Check-clause-causes
returns-in-Check-clause-causes g c = action_causes Check c.args.request _ _ c.run_check.result c.in-Check.is (c.run_check.ensures.causes (g.I.Source.seen c.args.script.now))

pub returns-in-Replay-clause-causes : goal.returns-in-Replay-clause-causes
returns-in-Replay-clause-causes g c = action_causes Replay c.args.request _ _ c.run_replay.result c.in-Replay.is c.run_replay.ensures.causes

pub returns-clause-owes : goal.returns-clause-owes
returns-clause-owes g c = λ sure.
    action_request (Grow c.in-Grow.growth) c.args.request _ _ c.run_grow.result c.in-Grow.is
    (kept_owes (grow_plan c.args.request.ask c.in-Grow.growth)
    (record { folder = g.F.Folder.seen c.args.folder.now; script = g.I.Source.seen c.args.script.now; out = g.O.Sink.seen c.args.out.now })
    (record { folder = g.F.Folder.seen c.args.folder.now; script = g.I.Source.seen c.args.script.now; out = g.O.Sink.seen c.run_grow.new.out })
    c.run_grow.result (c.run_grow.ensures.keeps sure))

pub returns-clause-causes : goal.returns-clause-causes
returns-clause-causes g c =
    action_causes (Grow c.in-Grow.growth) c.args.request _ _ c.run_grow.result c.in-Grow.is
    (files_causes
    (record { folder = g.F.Folder.seen c.args.folder.now; script = g.I.Source.seen c.args.script.now; out = g.O.Sink.seen c.args.out.now })
    (record { folder = g.F.Folder.seen c.args.folder.now; script = g.I.Source.seen c.args.script.now; out = g.O.Sink.seen c.run_grow.new.out })
    c.run_grow.result c.run_grow.ensures.only refl refl refl)
