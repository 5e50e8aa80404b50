use Rattle.std.proofs.Common.{ℕ, ◌≡◌, not, filter}
use Rattle.std.specs.FinMap.{contains_key}
use Rattle.std.proofs.lemmas.Result.{IfOk-weaker}
use Rattle.mt_trial.specs.Deaths.{IsRest}
use Rattle.mt_trial.proofs.deletion.unreached.Goals as goal

pub returns-clause-rest : goal.returns-clause-rest
returns-clause-rest g c =
    IfOk-weaker c.without.result (λ rest. rest ≡ filter (λ (n : ℕ). not (contains_key c.in_ok-kept.kept n)) c.args.nodes.now) (λ rest. IsRest c.args.overlay.now c.args.holding c.args.nodes.now rest)
    (λ rest is. record { kept = c.in_ok-kept.kept; exact = c.in_ok-kept.ensures.reached; same = is })
    c.without.ensures.rest
