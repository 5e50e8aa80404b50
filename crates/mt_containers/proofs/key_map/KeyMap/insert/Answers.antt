use Rattle.mt_containers.proofs.Texts.{insert_text}
use Rattle.mt_containers.proofs.key_map.KeyMap.insert.Goals as goal

pub returns-clause-ok : goal.returns-clause-ok
returns-clause-ok g c =
    insert_text g.K.Ord.cmp g.K.TextKey.text g.K.TextKey.entries g.met.K.TextKey.by_text c.self.inside.tree c.insert.new.self c.args.self.now c.args.key c.args.value c.self.view_is
    c.insert.ensures.was_ordered c.insert.ensures.ordered c.in_ok-insert.ensures.entries
