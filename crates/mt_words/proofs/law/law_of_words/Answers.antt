use Rattle.mt_words.proofs.Fronts.{entry_rooted}
use Rattle.mt_words.proofs.IsFront.{front_before, no_front}
use Rattle.mt_words.proofs.Lines.{is_line}
use Rattle.mt_words.proofs.Numbers.{decimal_of_number, number_of_decimal}
use Rattle.mt_words.proofs.ReadFrom.{line_within}
use Rattle.mt_words.proofs.Spelled.{line_read}
use Rattle.mt_words.proofs.law.law_of_words.Goals as goal

pub returns-clause-line : goal.returns-clause-line
returns-clause-line c = is_line

pub returns-clause-read : goal.returns-clause-read
returns-clause-read c = line_read

pub returns-clause-front : goal.returns-clause-front
returns-clause-front c = front_before

pub returns-clause-bad : goal.returns-clause-bad
returns-clause-bad c = no_front

pub returns-clause-least : goal.returns-clause-least
returns-clause-least c = λ set line n h. (line_within set line n h).0

pub returns-clause-most : goal.returns-clause-most
returns-clause-most c = λ set line n h. (line_within set line n h).1

pub returns-clause-decimal : goal.returns-clause-decimal
returns-clause-decimal c = number_of_decimal

pub returns-clause-number : goal.returns-clause-number
returns-clause-number c = λ text n h. (decimal_of_number text n h).0

pub returns-clause-small : goal.returns-clause-small
returns-clause-small c = λ text n h. (decimal_of_number text n h).1

pub returns-clause-entry : goal.returns-clause-entry
returns-clause-entry c = entry_rooted
