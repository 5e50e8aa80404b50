use Rattle.mt_request.proofs.Rows.{entries_rooted, grown, no_entry, no_word, option_twice, options, plain, refused_as, two_entries, accepted_as}
use Rattle.mt_request.proofs.law.law_of_requests.Goals as goal

pub returns-clause-accepted : goal.returns-clause-accepted
returns-clause-accepted c = accepted_as

pub returns-clause-refused : goal.returns-clause-refused
returns-clause-refused c = refused_as

pub returns-clause-entries : goal.returns-clause-entries
returns-clause-entries c = entries_rooted

pub returns-clause-no_word : goal.returns-clause-no_word
returns-clause-no_word c = no_word

pub returns-clause-no_entry : goal.returns-clause-no_entry
returns-clause-no_entry c = no_entry

pub returns-clause-option_twice : goal.returns-clause-option_twice
returns-clause-option_twice c = option_twice

pub returns-clause-plain : goal.returns-clause-plain
returns-clause-plain c = plain

pub returns-clause-two_entries : goal.returns-clause-two_entries
returns-clause-two_entries c = two_entries

pub returns-clause-options : goal.returns-clause-options
returns-clause-options c = options

pub returns-clause-grown : goal.returns-clause-grown
returns-clause-grown c = grown
