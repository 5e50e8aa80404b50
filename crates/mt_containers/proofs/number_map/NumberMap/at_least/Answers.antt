use Rattle.std.proofs.Common.{sym, rules}
use Rattle.mt_containers.proofs.Leasts.{least_none, least_some}
use Rattle.mt_containers.proofs.number_map.NumberMap.at_least.Goals as goal

pub returns-in_err-least : goal.returns-in_err-least
returns-in_err-least g c =
    let none = least_none c.args.self.now c.self.inside.tree.entries c.range.result c.args.key c.self.view_is c.range.ensures.ordered (c.range.ensures.between tt) c.in_err-least.ensures.steps.0 in
    search rules

pub returns : goal.returns
returns g c = record { least = sym (least_some c.args.self.now c.self.inside.tree.entries c.range.result c.next.new.self c.args.key c.in_ok-least.least.now _ c.self.view_is c.range.ensures.ordered (c.range.ensures.between tt) c.in_ok-least.ensures.steps) }
