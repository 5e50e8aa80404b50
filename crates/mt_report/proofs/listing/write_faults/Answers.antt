use Rattle.std.proofs.Common.{arith, rules}
use Rattle.mt_io.proofs.Seen.{stopped_each, wrote_each, wrote_none}
use Rattle.mt_report.specs.Listings.{fault_line}
use Rattle.mt_report.proofs.listing.write_faults.Goals as goal

pub loop-fault-init : goal.loop-fault-init
loop-fault-init g c = record { written = wrote_none _; later = omega arith }

pub loop-fault-preserved : goal.loop-fault-preserved
loop-fault-preserved g c = record {
  written = wrote_each fault_line _ _ _ c.args.faults.now c.loop-fault.fault-index c.fault-item.result _ c.loop-fault.invariant.written c.in_ok-write_fault.ensures.all (omega arith) c.fault-item.is;
  later = omega (arith, c.loop-fault.invariant.later, c.in_ok-write_fault.ensures.later);
}

pub returns-in_err-write_fault : goal.returns-in_err-write_fault
returns-in_err-write_fault g c =
    let h = stopped_each fault_line _ _ _ c.args.faults.now c.loop-fault.fault-index c.fault-item.result _ c.loop-fault.invariant.written c.in_err-write_fault.ensures.stop (omega arith) c.fault-item.is in
    search rules
