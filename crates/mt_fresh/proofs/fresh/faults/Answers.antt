use Rattle.std.proofs.Common.{◌∙◌, ◌≤◌, subst}
use Rattle.mt_files.specs.Fresh.{max_modules}
use Rattle.mt_fresh.proofs.FreshGraph.{founds_calls, founds_faults, founds_modules}
use Rattle.mt_fresh.proofs.fresh.faults.Goals as goal

pub returns-clause-exact : goal.returns-clause-exact
returns-clause-exact c = c.in_ok-list.ensures.exact ∙ founds_faults (record { options = c.args.options.now; entries = c.args.entries.now }) c.args.files.now c.in_ok-founds.founds (c.in_ok-founds.ensures.exact tt)

pub returns-clause-modules : goal.returns-clause-modules
returns-clause-modules c = c.len-modules.ensures.count ∙ founds_modules (record { options = c.args.options.now; entries = c.args.entries.now }) c.args.files.now c.in_ok-founds.founds (c.in_ok-founds.ensures.exact tt)

pub returns-clause-calls : goal.returns-clause-calls
returns-clause-calls c = λ few.
    c.calls_of-calls.ensures.exact (subst (λ n. n ≤ max_modules) c.len-modules.ensures.count few)
    ∙ founds_calls (record { options = c.args.options.now; entries = c.args.entries.now }) c.args.files.now c.in_ok-founds.founds (c.in_ok-founds.ensures.exact tt)
