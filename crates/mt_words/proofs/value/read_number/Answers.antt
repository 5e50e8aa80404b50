use Rattle.std.proofs.Common.{◌≡◌, ◌∙◌, sym, ap, true, false}
use Rattle.mt_words.specs.Values.{is_decimal}
use Rattle.mt_words.proofs.Numbers.{no_number, parsed_number}
use Rattle.mt_words.proofs.value.read_number.Goals as goal

pub returns-then-is_decimal_text : goal.returns-then-is_decimal_text
returns-then-is_decimal_text c =
    let text : is_decimal c.args.text.now ≡ true = ap is_decimal (sym c.as_bytes.ensures.value) ∙ sym c.is_decimal_text.ensures.decimal ∙ c.if-is_decimal_text.true in
    record { number = c.ok.ensures.value ∙ parsed_number c.args.text.now c.parse.result c.parse.ensures.value.0 text }

pub returns-else-is_decimal_text : goal.returns-else-is_decimal_text
returns-else-is_decimal_text c =
    let text : is_decimal c.args.text.now ≡ false = ap is_decimal (sym c.as_bytes.ensures.value) ∙ sym c.is_decimal_text.ensures.decimal ∙ c.if-is_decimal_text.false in
    record { number = no_number c.args.text.now text }
