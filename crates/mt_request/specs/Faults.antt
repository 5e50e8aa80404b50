-- Why a command line asks for nothing.
use Rattle.mt_words.specs.declared.words.WordsFault.{WordsFault}
use Rattle.mt_words.specs.declared.words.WordsFault.TheVariants.{Bad, NoMemory}
use Rattle.mt_request.specs.declared.fault.WordFault.{WordFault}
use Rattle.mt_request.specs.declared.fault.WordFault.TheVariants.{BadWord, NoMemory as NoRoom}

-- the fault of the reader of words, with the same number
abbrev pub word_fault : WordsFault → WordFault
word_fault (Bad at) = BadWord at
word_fault NoMemory = NoRoom
