use Rattle.std.proofs.Common.{◌∙◌}
use Rattle.mt_containers.proofs.Texts.{get_text, remove_text}
use Rattle.mt_containers.proofs.key_map.KeyMap.remove.Goals as goal

pub returns-clause-taken : goal.returns-clause-taken
returns-clause-taken g c = c.remove.ensures.value ∙ get_text g.K.Ord.cmp g.K.TextKey.text g.K.TextKey.entries g.met.K.TextKey.by_text c.self.inside.tree c.args.self.now c.args.key.now c.self.view_is

pub returns-clause-rest : goal.returns-clause-rest
returns-clause-rest g c =
    remove_text g.K.Ord.cmp g.K.TextKey.text g.K.TextKey.entries g.met.K.TextKey.by_text c.self.inside.tree c.remove.new.self c.args.self.now c.args.key.now c.self.view_is c.remove.ensures.entries
    c.remove.ensures.updates.1
