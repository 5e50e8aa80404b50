use Rattle.std.proofs.Common.{◌∙◌}
use Rattle.mt_containers.proofs.Texts.{len_text}
use Rattle.mt_containers.proofs.key_map.KeyMap.len.Goals as goal

pub returns-clause-len : goal.returns-clause-len
returns-clause-len g c = c.len.ensures.len ∙ len_text g.K.Ord.cmp g.K.TextKey.text g.K.TextKey.entries g.met.K.TextKey.by_text c.self.inside.tree c.args.self.now c.self.view_is c.len.ensures.ordered
