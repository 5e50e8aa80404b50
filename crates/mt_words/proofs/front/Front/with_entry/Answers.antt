use Rattle.std.proofs.Common.{◌∙◌, sym, ap, Some}
use Rattle.mt_words.proofs.Fronts.{build_none, build_some, entry_rooted, new_rooted}
use Rattle.mt_words.proofs.front.Front.with_entry.Goals as goal

pub returns-in-None : goal.returns-in-None
returns-in-None c = record { front = build_none c.args.self c.args.word.now c.requires.build (sym c.in-None.is ∙ c.in_ok-new_entry.ensures.entry) }

pub push_entry-requires-clause-rooted : goal.push_entry-requires-clause-rooted
push_entry-requires-clause-rooted c =
    entry_rooted c.args.word.now c.in-Some.entry (new_rooted c.args.self.positionals c.args.word.now c.in-Some.entry (sym c.in_ok-new_entry.ensures.entry ∙ c.in-Some.is)).1

pub returns-in_ok-front-in-Some : goal.returns-in_ok-front-in-Some
returns-in_ok-front-in-Some c = record { front = ap Some c.in_ok-front-in-Some.ensures.front ∙ build_some c.args.self c.args.word.now c.in-Some.entry c.requires.build (sym c.in-Some.is ∙ c.in_ok-new_entry.ensures.entry) }
