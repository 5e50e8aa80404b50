-- A trouble of the source as a fault of the script.
use Rattle.std.proofs.Common.{◌≡◌, refl, Result, Err, sym, ◌∙◌}
use Rattle.std.specs.Result.{IsErrAnd}
use Rattle.std.proofs.lemmas.Result.{err_from_is_err_and}
use Rattle.mt_io.specs.declared.trouble.Trouble.{Trouble}
use Rattle.mt_io.specs.declared.trouble.Trouble.TheVariants as trouble
use Rattle.mt_script.specs.Faults.{trouble_fault}
use Rattle.mt_script.specs.declared.fault.ScriptFault.{ScriptFault}
use Rattle.mt_script.specs.declared.fault.ScriptFault.TheVariants.{Failed}

-- only a failure is the fault `Failed`
only_failed : (t : Trouble) → trouble_fault t ≡ Failed → t ≡ trouble.Failed
only_failed trouble.Failed h = refl
only_failed trouble.NoMemory h = cc

-- the answer `Failed` that a `?` makes of a trouble
pub failed_from : {T : Type 0} (t : Trouble) (r : Result T ScriptFault) → IsErrAnd r (λ fault. fault ≡ trouble_fault t) → r ≡ Err Failed → t ≡ trouble.Failed
failed_from t r h failed =
    let p = err_from_is_err_and r h in
    only_failed t (sym p.2 ∙ (let same : Err p.0 ≡ Err Failed = sym p.1 ∙ failed in cc))
