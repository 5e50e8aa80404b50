use Rattle.std.proofs.Common.{◌∙◌, rules, sym, subst, arith}
use Rattle.std.specs.List.{Contains}
use Rattle.std.proofs.lemmas.List.Elements.{Contains-push}
use Rattle.mt_files.proofs.Listings.{listed_start}
use Rattle.mt_files.proofs.Searches.{searched_keys, searched_start, shown_start}
use Rattle.mt_files.proofs.search.find_files.Goals as goal

pub loop-turn-init : goal.loop-turn-init
loop-turn-init g c =
    rw (c.new-met.ensures.empty, c.in_ok-push.ensures.ok, c.new-places.ensures.empty, c.in_ok-root.ensures.exact)
    (record {
      shown = shown_start;
      searched = λ tree tells. searched_start tree;
      listed = listed_start g.F.Folder.lists;
      same = search rules;
      apart = search rules;
      later = omega arith;
    })

pub returns-in_default-clause-found : goal.returns-in_default-clause-found
returns-in_default-clause-found g c =
    λ tree tells.
    let none = c.in_default.ensures.last.0 in
    searched_keys tree c.loop-turn.met (rw none at c.loop-turn.invariant.shown) (rw none at (c.loop-turn.invariant.searched tree tells))

pub search_folder-requires : goal.search_folder-requires
search_folder-requires g c = record {
  there = λ tree tells.
      (c.loop-turn.invariant.searched tree (sym c.loop-turn.invariant.same ∙ tells)).there c.in-Some.place
      (subst (λ ps. Contains ps c.in-Some.place) (sym c.in-Some.ensures.last) (Contains-push c.pop.new.self c.in-Some.place));
}
