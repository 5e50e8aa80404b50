-- What the words of a command line ask for.
use Rattle.std.specs.Prelude.{ℕ, List, is_some, if◌then◌else◌, Result, Ok, Err, codes}
use Rattle.std.specs.Str.{bytes_eq}
use Rattle.mt_files.specs.Asks.{Ask}
use Rattle.mt_words.specs.Lines.{IsLine}
use Rattle.mt_words.specs.Tables.{named}
use Rattle.mt_words.specs.Words.{words_of}
use Rattle.mt_words.specs.declared.table.CommandSet.TheVariants.{Still}
use Rattle.mt_words.specs.declared.words.Words.{Words}
use Rattle.mt_words.specs.declared.words.WordsFault.{WordsFault}
use Rattle.mt_request.specs.Asks.{build_ask, grown_ask}
use Rattle.mt_request.specs.Faults.{word_fault}
use Rattle.mt_request.specs.Growths.{action_of}
use Rattle.mt_request.specs.Values.{workers_of}
use Rattle.mt_request.specs.declared.fault.WordFault.{WordFault}
use Rattle.mt_request.specs.declared.request.Request.{Request}

-- words that a line of the commands says
pub record AreSaid (words : Words) : Type 0 where
  pub line : List (List ℕ)
  pub says : IsLine Still line words

-- what builds are asked for by the words
abbrev pub ask_of : Words → Ask
ask_of words = if bytes_eq words.command (codes "grow") then grown_ask else build_ask words.positionals words.options

-- what the words ask for
unfoldable pub request_in : Words → Request
request_in words = record {
  action = action_of words.command words.positionals;
  ask = ask_of words;
  full = is_some (named words.options (codes "full"));
  workers = workers_of words.options;
  root = named words.options (codes "root");
  cache = named words.options (codes "cache");
}

-- what is asked for by what a line says, if it says something
abbrev pub asked : Result Words WordsFault → Result Request WordFault
asked (Ok words) = Ok (request_in words)
asked (Err fault) = Err (word_fault fault)

-- what a command line asks for, or the number of its first bad word, from 1
abbrev pub request_of : List (List ℕ) → Result Request WordFault
request_of line = asked (words_of Still line)
