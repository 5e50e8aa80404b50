use Rattle.std.proofs.Common.{◌≡◌, ◌++◌, sym, subst}
use Rattle.mt_tokens.specs.CacheEntries.{IsEntryName, name_bytes}
use Rattle.mt_entry.proofs.Reading.{read_no_name, read_turn}
use Rattle.mt_entry.proofs.reader.read_names.Goals as goal

pub returns-in_default-clause-none : goal.returns-in_default-clause-none
returns-in_default-clause-none c = read_no_name c.args.count c.loop-at._at c.args.bytes.now c.loop-at.left.now c.loop-at.names c.loop-at-test.true c.loop-at.invariant c.in_default.ensures.none

pub loop-at-preserved : goal.loop-at-preserved
loop-at-preserved c =
    let text = sym c.in_ok-text.ensures.bytes in
    read_turn c.args.count c.loop-at._at c.args.bytes.now c.loop-at.left.now c.in-Some.rest.now c.loop-at.names c.push.new.self (record { text = c.in_ok-text.text; kind = c.in-Some.kind }) c.loop-at-test.true c.loop-at.invariant c.in_ok-push.ensures.ok
    (subst (λ t. c.loop-at.left.now ≡ name_bytes (record { text = t; kind = c.in-Some.kind }) ++ c.in-Some.rest.now) text c.in-Some.ensures.some)
    (subst (λ t. IsEntryName (record { text = t; kind = c.in-Some.kind })) text c.in-Some.ensures.name)
