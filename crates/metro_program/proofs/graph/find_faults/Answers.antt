use Rattle.metro_program.proofs.Checks.{found_all}
use Rattle.metro_program.proofs.graph.find_faults.Goals as goal

pub returns : goal.returns
returns c = record { exact = found_all c.args.ask.now c.options.result.now c.entries.result.now c.args.files.now c.faults.result c.options.ensures.options c.entries.ensures.entries c.faults.ensures.exact c.faults.ensures.modules c.faults.ensures.calls }
