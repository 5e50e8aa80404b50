use Rattle.mt_entry.proofs.Entries.{made_honest, made_sure, one_entry}
use Rattle.mt_entry.proofs.law.law_of_entries.Goals as goal

pub returns-clause-one : goal.returns-clause-one
returns-clause-one c = one_entry

pub returns-clause-sure : goal.returns-clause-sure
returns-clause-sure c = made_sure

pub returns-clause-honest : goal.returns-clause-honest
returns-clause-honest c = made_honest
