use Rattle.std.proofs.Common.{◌≡◌, ◌∷◌, ◌++◌}
use Rattle.std.specs.List.{flat_map}
use Rattle.std.specs.String.{string_bytes}
use Rattle.std.specs.Str.Iter.{chars_rest}
use Rattle.mt_files.specs.FaultText.{quoted_byte}
use Rattle.mt_files.proofs.fault_texts.quoted_name.Given as goal

abbrev pub invariant-loop-character : goal.invariant-loop-character
invariant-loop-character l = string_bytes l.text ++ flat_map quoted_byte (chars_rest l.character-iterator) ≡ 34 ∷ flat_map quoted_byte l.name
