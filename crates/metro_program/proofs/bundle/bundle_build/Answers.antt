use Rattle.std.proofs.Common.{Ok, arith}
use Rattle.mt_revision.specs.Revisions.{bundle_of}
use Rattle.metro_program.specs.First.{built_plan}
use Rattle.metro_program.proofs.Fulfils.{fulfils_cut, fulfils_wrote}
use Rattle.metro_program.proofs.bundle.bundle_build.Goals as goal

pub returns-in-Ok : goal.returns-in-Ok
returns-in-Ok g c = record { fulfils = fulfils_wrote (built_plan bundle_of (Ok c.args.build.now)) _ _ (omega arith) c.in-Ok.ensures.all }

pub returns-in-Err : goal.returns-in-Err
returns-in-Err g c = record { fulfils = fulfils_cut (built_plan bundle_of (Ok c.args.build.now)) _ _ c.in-Err.ensures.cause c.in-Err.ensures.stop }
