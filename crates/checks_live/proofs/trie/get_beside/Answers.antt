use Rattle.std.proofs.Common.{◌≡◌, ◌∙◌, ap}
use Rattle.std.specs.Cmp.{nat_cmp_total}
use Rattle.std.specs.FinMap.{get, get-insert, insert}
use Rattle.std.proofs.lemmas.Result.{IfOk-weaker}
use Rattle.checks_live.proofs.trie.get_beside.Goals as goal

pub returns : goal.returns
returns g c = record {
  other =
      IfOk-weaker c.with.result (λ after. after ≡ insert c.args.trie.now 5 c.args.value) (λ after. get after 6 ≡ get c.args.trie.now 6)
      (λ after is. ap (λ m. get m 6) is ∙ get-insert nat_cmp_total c.args.trie.now 5 c.args.value 6)
      c.with.ensures.with;
}
