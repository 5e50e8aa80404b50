use Rattle.std.proofs.Common.{[]}
use Rattle.mt_containers.proofs.Walks.{among_reached, reached_among}
use Rattle.mt_containers.proofs.Explorations.{explored_has, explored_only}
use Rattle.mt_containers.proofs.law.law_of_walks.Goals as goal

pub returns : goal.returns
returns g c = record {
  reach = λ eq step starts keys key decides closed. (among_reached eq decides step starts keys key, reached_among eq decides step starts keys closed key);
  explored = λ step starts row rows key h. (explored_has step starts row rows h key, explored_only step starts row rows [] h key);
}
