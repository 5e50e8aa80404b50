use Rattle.std.proofs.Common.{◌≡◌, ◌∙◌, sym, ap, true}
use Rattle.mt_script.specs.Heads.{is_size}
use Rattle.mt_script.proofs.Sizes.{parsed_size}
use Rattle.mt_script.proofs.command_head.size_in.Goals as goal

pub returns-then-is_size_text : goal.returns-then-is_size_text
returns-then-is_size_text c =
    let size : is_size c.args.text.now ≡ true = ap is_size (sym c.as_bytes.ensures.value) ∙ sym c.is_size_text.ensures ∙ c.if-is_size_text.true in
    c.ok.ensures.value ∙ parsed_size c.args.text.now c.parse.result c.parse.ensures.value.0 size
