use Rattle.std.proofs.Common.{sym, ap, ◌∙◌}
use Rattle.std.specs.Cmp.{nat_cmp_total}
use Rattle.std.specs.FinMap.{len, len-insert}
use Rattle.mt_trie.proofs.Tries.{map_of_insert}
use Rattle.mt_trie.proofs.shared_trie.SharedTrie.with.Goals as goal

pub invariant_of-result : goal.invariant_of-result
invariant_of-result g c =
    let e = map_of_insert c.self.inside.root _ c.in_ok-root.root c.args.self.now c.args.key c.args.value c.as_ref.ensures.value c.self.view_is c.requires.key c.in_ok-root.ensures.changed in
    c.len_with-count.ensures.len ∙ sym (len-insert nat_cmp_total c.args.self.now c.args.key c.args.value) ∙ ap len (sym e)

pub returns : goal.returns
returns g c = record { with = map_of_insert c.self.inside.root _ c.in_ok-root.root c.args.self.now c.args.key c.args.value c.as_ref.ensures.value c.self.view_is c.requires.key c.in_ok-root.ensures.changed }
