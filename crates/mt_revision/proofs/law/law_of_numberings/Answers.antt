use Rattle.mt_revision.proofs.Extensions.{extended_distinct, extended_entry, extended_member, extended_more}
use Rattle.mt_revision.proofs.Numbers.{path_with_number}
use Rattle.mt_revision.proofs.law.law_of_numberings.Goals as goal

pub returns : goal.returns
returns c = record { kept = extended_more; entry = extended_entry; member = extended_member; distinct = extended_distinct; path = path_with_number }
