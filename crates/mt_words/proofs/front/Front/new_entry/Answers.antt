use Rattle.std.proofs.Common.{◌≡◌, ◌<◌, ◌≤◌, ◌∙◌, sym, ap, true, false, length, arith}
use Rattle.mt_words.specs.Fronts.{Front, is_among, is_build, entries}
use Rattle.mt_words.proofs.Fronts.{entry_by, entry_full, entry_none}
use Rattle.mt_words.proofs.front.Front.new_entry.Goals as goal

pub returns-then-len-ge-MAX_ENTRIES : goal.returns-then-len-ge-MAX_ENTRIES
returns-then-len-ge-MAX_ENTRIES c =
    let full : 16 ≤ length c.self.inside.positionals = omega (arith, c.if-len-ge-MAX_ENTRIES.true, c.len.ensures.count) in
    record { entry = entry_full _ c.args.self.now c.args.word.now c.self.view_is full }

pub returns-in-None : goal.returns-in-None
returns-in-None c =
    let room : length c.self.inside.positionals < 16 = omega (arith, c.if-len-ge-MAX_ENTRIES.false, c.len.ensures.count) in
    record { entry = entry_none _ c.args.self.now c.args.word.now c.self.view_is room (sym c.in-None.is ∙ c.in_ok-read_entry.ensures.entry) }

pub returns-then-contains : goal.returns-then-contains
returns-then-contains c =
    let room : length c.self.inside.positionals < 16 = omega (arith, c.if-len-ge-MAX_ENTRIES.false, c.len.ensures.count) in
    let build : is_build c.self.inside.usage ≡ true = ap (λ (f : Front). is_build f.usage) c.self.view_is ∙ c.requires.build in
    let among : is_among (entries c.self.inside.usage c.self.inside.positionals) c.in-Some.entry ≡ true = sym (c.self.invariant.0.at c.in-Some.entry) ∙ sym c.if-contains.ensures.has in
    record { entry = entry_by _ c.args.self.now c.args.word.now c.in-Some.entry true c.self.view_is build room (sym c.in-Some.is ∙ c.in_ok-read_entry.ensures.entry) among }

pub returns-else-contains : goal.returns-else-contains
returns-else-contains c =
    let room : length c.self.inside.positionals < 16 = omega (arith, c.if-len-ge-MAX_ENTRIES.false, c.len.ensures.count) in
    let build : is_build c.self.inside.usage ≡ true = ap (λ (f : Front). is_build f.usage) c.self.view_is ∙ c.requires.build in
    let among : is_among (entries c.self.inside.usage c.self.inside.positionals) c.in-Some.entry ≡ false = sym (c.self.invariant.0.at c.in-Some.entry) ∙ sym c.if-contains.ensures.has in
    record { entry = entry_by _ c.args.self.now c.args.word.now c.in-Some.entry false c.self.view_is build room (sym c.in-Some.is ∙ c.in_ok-read_entry.ensures.entry) among }
