use Rattle.std.proofs.Common.{sym, ◌∙◌, arith, Some, None}
use Rattle.mt_trie.proofs.Entries.{entries_end, entries_gap, entries_hit}
use Rattle.mt_trie.proofs.Tries.{get_lent, get_past}
use Rattle.mt_trie.proofs.shared_trie.SharedTrie.first_from.Goals as goal

pub returns-in-Some-clause-first : goal.returns-in-Some-clause-first
returns-in-Some-clause-first g c =
    sym c.loop-at.invariant ∙ entries_hit c.args.self.now c.loop-at.at c.in-Some.value.now
    (get_lent c.self.inside.root _ c.args.self.now c.loop-at.at (Some c.in-Some.value.now) c.as_ref.ensures.value c.self.view_is c.loop-at-test.true c.in-Some.ensures.value)

pub loop-at-preserved : goal.loop-at-preserved
loop-at-preserved g c =
    sym (entries_gap c.args.self.now c.loop-at.at c.gap_end-at.result (omega (arith, c.gap_end-at.ensures.after))
    (λ q a b. get_lent c.self.inside.root _ c.args.self.now q None c.as_ref-in-loop-at.ensures.value c.self.view_is (omega (arith, b, c.gap_end-at.ensures.within)) (sym (c.gap_end-at.ensures.none q a b))))
    ∙ c.loop-at.invariant

pub returns-clause-first : goal.returns-clause-first
returns-clause-first g c =
    sym c.loop-at.invariant ∙ entries_end c.args.self.now c.loop-at.at (λ q a. get_past c.self.inside.root c.args.self.now q c.self.view_is (omega (arith, a, c.loop-at-test.false)))
