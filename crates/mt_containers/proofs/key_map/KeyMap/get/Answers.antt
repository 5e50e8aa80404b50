use Rattle.std.proofs.Common.{◌∙◌}
use Rattle.mt_containers.proofs.Texts.{get_text}
use Rattle.mt_containers.proofs.key_map.KeyMap.get.Goals as goal

pub returns : goal.returns
returns g c = record { found = c.get.ensures.value ∙ get_text g.K.Ord.cmp g.K.TextKey.text g.K.TextKey.entries g.met.K.TextKey.by_text c.self.inside.tree c.args.self.now c.args.key.now c.self.view_is }
