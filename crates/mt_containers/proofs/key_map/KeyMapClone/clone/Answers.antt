use Rattle.mt_containers.proofs.Texts.{clone_text}
use Rattle.mt_containers.proofs.key_map.KeyMapClone.clone.Goals as goal

pub returns : goal.returns
returns g c = record { cases = clone_text g.K.Ord.cmp g.K.TextKey.text g.K.TextKey.entries g.met.K.TextKey.by_text g.K.Clone.is_clone g.V.Clone.is_clone g.met.K.Copies.copies g.met.V.Copies.copies c.self.inside.tree.entries c.in_ok-tree.tree.entries c.args.self.now c.self.view_is c.in_ok-tree.ensures.cases }
