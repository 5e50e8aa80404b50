use Rattle.std.proofs.Common.{◌≡◌, ◌++◌, ◌∙◌, ap, sym, subst, arith}
use Rattle.mt_graph.proofs.LinkFaults.{follow_fault, followed_faults, no_fault}
use Rattle.mt_graph.proofs.judgement.faults_of_links.Goals as goal

pub returns-then-lead_to_sources : goal.returns-then-lead_to_sources
returns-then-lead_to_sources c = record { exact = c.new-faults.ensures.empty ∙ no_fault c.args.path.now c.args.output.now c.args.links.now (sym c.lead_to_sources.ensures.exact ∙ c.if-lead_to_sources.true) }

pub returns : goal.returns
returns c = record { exact = followed_faults c.args.path.now c.args.output.now c.args.links.now c.loop-i.i c.loop-i.faults (omega arith) c.loop-i.invariant }

pub loop-i-preserved : goal.loop-i-preserved
loop-i-preserved c = follow_fault c.args.path.now c.args.output.now c.args.links.now c.loop-i.i c.loop-i.faults c.push_fault.new.faults _ c.in_ok-push_fault.ensures.ok c.loop-i.invariant
