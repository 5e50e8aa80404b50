-- The text of a piece of a bundle.
use Rattle.std.specs.Prelude.{ℕ, List, codes}
use Rattle.std.specs.List.{join_by}
use Rattle.std.specs.Fmt.{decimal}
use Rattle.mt_write.specs.Modules.{slot_text, path_text}
use Rattle.mt_write.specs.declared.pieces.Piece.{Piece}
use Rattle.mt_write.specs.declared.pieces.Piece.TheVariants.{Bytes, Number, Slots, Path}

-- the bytes themselves, a number in decimal digits, slots joined by `,`, or a path as a bundle for development has it
abbrev pub piece_text : Piece → List ℕ
piece_text (Bytes bytes) = bytes.now
piece_text (Number number) = decimal number
piece_text (Slots slots) = join_by slot_text (codes ",") slots.now
piece_text (Path path dev) = path_text dev path.now
