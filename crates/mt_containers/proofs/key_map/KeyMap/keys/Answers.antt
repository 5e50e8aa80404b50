use Rattle.mt_containers.proofs.Seens.{sorted_seen}
use Rattle.mt_containers.proofs.Texts.{keys_text}
use Rattle.mt_containers.proofs.key_map.KeyMap.keys.Goals as goal

pub returns-clause-rest : goal.returns-clause-rest
returns-clause-rest g c =
    keys_text g.K.Ord.cmp g.K.TextKey.text g.K.TextKey.entries g.met.K.TextKey.by_text g.K.TextKey.texts c.self.inside.tree c.args.self.now c.keys.result c.self.view_is c.keys.ensures.ordered c.keys.ensures.rest

pub returns-clause-sorted : goal.returns-clause-sorted
returns-clause-sorted g c = sorted_seen c.args.self.now
