use Rattle.mt_transform.proofs.Bodies.{bodies_utf8, dependencies_few}
use Rattle.mt_transform.proofs.Outputs.{sure_places}
use Rattle.mt_transform.proofs.Ranges.{comments_replaced, ranges_replaced}
use Rattle.mt_transform.proofs.law.law_of_bodies.Goals as goal

pub returns : goal.returns
returns c = record { utf8 = bodies_utf8; few = dependencies_few; places = sure_places; ranges = ranges_replaced; comments = comments_replaced }
