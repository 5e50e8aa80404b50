use Rattle.mt_containers.proofs.Texts.{entries_text}
use Rattle.mt_containers.proofs.key_map.KeyMapIntoIterator.into_iter.Goals as goal

pub returns : goal.returns
returns g c =
    let h = c.into_iter.ensures.into_iter_gives in
    record { into_iter_gives = entries_text g.K.Ord.cmp g.K.TextKey.text g.K.TextKey.entries g.met.K.TextKey.by_text c.self.inside.tree c.args.self _ c.self.view_is h.5 h.0 }
