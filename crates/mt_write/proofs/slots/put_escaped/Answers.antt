use Rattle.std.proofs.Common.{rules, refl, arith}
use Rattle.mt_write.specs.Modules.{escaped_byte}
use Rattle.mt_write.proofs.Buffered.{buffered_each, buffer_stopped_each}
use Rattle.mt_write.proofs.slots.put_escaped.Goals as goal

pub loop-byte-preserved : goal.loop-byte-preserved
loop-byte-preserved g c = record {
  put = buffered_each escaped_byte _ _ _ _ _ _ c.args.text.now c.loop-byte.byte-index 0 _ (omega arith) refl c.loop-byte.invariant.put c.in_ok-put_escaped_byte.ensures.all;
  later = omega (arith, c.in_ok-put_escaped_byte.ensures.later);
}

pub returns-in_err-put_escaped_byte : goal.returns-in_err-put_escaped_byte
returns-in_err-put_escaped_byte g c = let h = buffer_stopped_each escaped_byte _ _ _ _ _ c.args.text.now c.loop-byte.byte-index 0 _ (omega arith) refl c.loop-byte.invariant.put c.in_err-put_escaped_byte.ensures.stop in search rules
