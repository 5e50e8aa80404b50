use Rattle.mt_containers.proofs.Seens.{sorted_seen}
use Rattle.mt_containers.proofs.Texts.{entries_text}
use Rattle.mt_containers.proofs.key_map.KeyMap.iter.Goals as goal

pub returns-clause-rest : goal.returns-clause-rest
returns-clause-rest g c =
    entries_text g.K.Ord.cmp g.K.TextKey.text g.K.TextKey.entries g.met.K.TextKey.by_text c.self.inside.tree c.args.self.now c.iter.result c.self.view_is c.iter.ensures.ordered c.iter.ensures.rest

pub returns-clause-sorted : goal.returns-clause-sorted
returns-clause-sorted g c = sorted_seen c.args.self.now
