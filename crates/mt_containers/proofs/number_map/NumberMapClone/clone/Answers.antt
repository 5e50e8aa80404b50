use Rattle.mt_containers.proofs.Seens.{clone_seen}
use Rattle.mt_containers.proofs.number_map.NumberMapClone.clone.Goals as goal

pub returns : goal.returns
returns g c = record { cases = clone_seen g.V.Clone.is_clone g.met.V.Copies.copies c.self.inside.tree.entries c.in_ok-tree.tree.entries c.args.self.now c.self.view_is c.in_ok-tree.ensures.cases }
