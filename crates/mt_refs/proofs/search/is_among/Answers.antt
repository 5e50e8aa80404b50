use Rattle.std.proofs.Common.{◌∙◌}
use Rattle.mt_refs.proofs.Ascents.{among}
use Rattle.mt_refs.proofs.search.is_among.Goals as goal

pub returns : goal.returns
returns c = record { among = c.is_ok.ensures.value ∙ among c.args.numbers.now c.args.number c.binary_search.result c.requires.ascending c.binary_search.ensures.position }
