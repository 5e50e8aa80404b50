use Rattle.std.proofs.Common.{◌∙◌, sym, refl}
use Rattle.mt_request.proofs.Workers.{value_here, value_later, value_none}
use Rattle.mt_request.proofs.values.value_of.Goals as goal

pub loop-given-init : goal.loop-given-init
loop-given-init c = refl

pub loop-given-preserved : goal.loop-given-preserved
loop-given-preserved c =
    sym (value_later c.args.name.now c.args.options.now c.loop-given.given-index c.loop-given-item.result c.as_str.result.now c.loop-given-test.true c.loop-given-item.is c.as_str.ensures.bytes (sym c.eq.ensures ∙ c.if-eq.false))
    ∙ c.loop-given.invariant

pub returns-then-eq : goal.returns-then-eq
returns-then-eq c = record {
  value =
      sym (value_here c.args.name.now c.args.options.now c.loop-given.given-index c.loop-given-item.result c.as_str.result.now c.loop-given-test.true c.loop-given-item.is c.as_str.ensures.bytes (sym c.eq.ensures ∙ c.if-eq.true))
      ∙ c.loop-given.invariant;
}

pub returns : goal.returns
returns c = record {
  value =
      sym (value_none c.args.name.now c.args.options.now c.loop-given.given-index c.loop-given-test.false)
      ∙ c.loop-given.invariant;
}
