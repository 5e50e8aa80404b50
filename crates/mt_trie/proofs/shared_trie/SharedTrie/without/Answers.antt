use Rattle.std.proofs.Common.{sym, ap, ◌∙◌, ◌-◌, arith, true, false}
use Rattle.std.specs.FinMap as map
use Rattle.mt_trie.proofs.Tries.{held_as, held_in, len_held, len_less, map_of_remove, nothing}
use Rattle.mt_trie.proofs.Entries.{remove_absent, ok_of_cases}
use Rattle.mt_trie.proofs.shared_trie.SharedTrie.without.Goals as goal

pub returns-then-is_none : goal.returns-then-is_none
returns-then-is_none g c =
    let none = nothing (map.get c.args.self.now c.args.key) (held_as c.get.result _ false c.get.ensures.found c.if-is_none.ensures) in
    record { without = ok_of_cases _ _ _ c.clone.result c.clone.ensures.cases (λ t e. e ∙ remove_absent c.args.self.now c.args.key none) }

pub with_value-requires : goal.with_value-requires
with_value-requires g c = record { key = held_in c.self.inside.root c.args.self.now c.args.key c.self.view_is (held_as c.get.result _ true c.get.ensures.found c.if-is_none.ensures) }

pub overflow_sub-count : goal.overflow_sub-count
overflow_sub-count g c =
    let held = len_held c.args.self.now c.args.key (held_as c.get.result _ true c.get.ensures.found c.if-is_none.ensures) in
    let count = c.self.invariant ∙ ap map.len c.self.view_is in
    omega (arith, held, count)

pub invariant_of-result : goal.invariant_of-result
invariant_of-result g c =
    let less = len_less c.args.self.now c.args.key (held_as c.get.result _ true c.get.ensures.found c.if-is_none.ensures) in
    ap (λ n. n - 1) (c.self.invariant ∙ ap map.len c.self.view_is) ∙ sym less
    ∙ ap map.len (sym (map_of_remove c.self.inside.root _ c.in_ok-root.root c.args.self.now c.args.key c.as_ref.ensures.value c.self.view_is c.in_ok-root.ensures.changed))

pub returns : goal.returns
returns g c = record { without = map_of_remove c.self.inside.root _ c.in_ok-root.root c.args.self.now c.args.key c.as_ref.ensures.value c.self.view_is c.in_ok-root.ensures.changed }
