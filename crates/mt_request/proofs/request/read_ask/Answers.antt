use Rattle.std.proofs.Common.{◌≡◌, ◌∙◌, List, ℕ, false, sym, ap, subst, codes}
use Rattle.std.specs.List.{filter_map}
use Rattle.std.specs.Str.{bytes_eq}
use Rattle.mt_words.specs.Entries.{entry_of}
use Rattle.mt_request.specs.Asks.{AreEntries}
use Rattle.mt_request.proofs.Entries.{entries_said}
use Rattle.mt_request.proofs.request.read_ask.Goals as goal

pub read-requires : goal.read-requires
read-requires c =
    let other : bytes_eq c.args.words.now.command (codes "grow") ≡ false = ap (λ word. bytes_eq word (codes "grow")) (sym c.as_str.ensures.bytes) ∙ sym c.eq.ensures ∙ c.if-eq.false in
    record { entries = subst (λ (words : List (List ℕ)). AreEntries (filter_map entry_of words)) (sym c.as_slice.ensures.items) (entries_said c.args.words.now c.requires.said other) }
