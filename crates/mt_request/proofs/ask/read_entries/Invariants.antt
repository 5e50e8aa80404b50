use Rattle.std.proofs.Common.{◌≡◌, ◌++◌, drop}
use Rattle.std.specs.List.{filter_map}
use Rattle.mt_words.specs.Entries.{entry_of}
use Rattle.mt_request.proofs.ask.read_entries.Given as goal

abbrev pub invariant-loop-word : goal.invariant-loop-word
invariant-loop-word l = l.entries ++ filter_map entry_of (drop l.word-index l.words) ≡ filter_map entry_of l.words
