use Rattle.std.proofs.Common.{◌∙◌, ◌++◌, ◌∷◌, [], ap, sym, subst, refl, length, arith}
use Rattle.std.specs.List.{AllByRecursion}
use Rattle.std.specs.Option.{unwrap_or}
use Rattle.mt_path.specs.Segments.{segments_of}
use Rattle.mt_path.specs.Parse.{IsPath}
use Rattle.mt_path.specs.Names.{folder_of, is_root}
use Rattle.mt_files.specs.Resolve.{resolved_in}
use Rattle.mt_files.specs.declared.target.Target.TheVariants as target
use Rattle.mt_resolve.specs.Known.{LeadsTo}
use Rattle.mt_resolve.specs.Searches.{IsLogged, held_by, held_from}
use Rattle.mt_resolve.proofs.Bare.{bare_candidates, bare_on, bare_resolved, ends_here, goes_on}
use Rattle.mt_resolve.proofs.Holders.{fewer, held_up}
use Rattle.mt_resolve.proofs.Known.{nothing_known, push_all}
use Rattle.mt_resolve.proofs.Searches.{ends_at, ends_found, ends_then}
use Rattle.mt_resolve.proofs.place.Place.bare_answer.Goals as goal

pub returns-in-Some-clause-probes : goal.returns-in-Some-clause-probes
returns-in-Some-clause-probes c = λ e. let k = c.in-Some.ensures.exact ∙ nothing_known c.args.answers.now c.up.at c.args.name.now e in absurd (cc)

pub returns-then-is_end-clause-target : goal.returns-then-is_end-clause-target
returns-then-is_end-clause-target c =
    let place = c.args.self.now in
    let options = place.options.now in
    let files = place.files.now in
    let name = c.args.name.now in
    let here = ends_at place.endings files c.up.notes.log _ c.in_ok-found.found _ _ (ap (λ n. held_by options files n c.up.at) c.as_str.ensures.bytes) c.in_ok-found.ensures.exact in
    let path : IsPath c.up.at = subst IsPath c.at-then-is_end.view_is c.at-then-is_end.invariant in
    let ends = ends_here place.endings options files name c.up.at c.up.notes.log _ c.in_ok-found.found (is_root c.up.at) refl path (sym c.if-is_end.ensures.exact) here in
    sym c.up.invariant.same ∙ bare_resolved options files name c.up.at c.requires.bare ∙ ap (λ o. unwrap_or o target.None) (sym ends.target) ∙ sym (c.in_ok-target-2.ensures.value ∙ c.unwrap_or.ensures)

pub returns-then-is_end-clause-passed : goal.returns-then-is_end-clause-passed
returns-then-is_end-clause-passed c =
    let place = c.args.self.now in
    let options = place.options.now in
    let files = place.files.now in
    let name = c.args.name.now in
    let here = ends_at place.endings files c.up.notes.log _ c.in_ok-found.found _ _ (ap (λ n. held_by options files n c.up.at) c.as_str.ensures.bytes) c.in_ok-found.ensures.exact in
    let path : IsPath c.up.at = subst IsPath c.at-then-is_end.view_is c.at-then-is_end.invariant in
    let ends = ends_here place.endings options files name c.up.at c.up.notes.log _ c.in_ok-found.found (is_root c.up.at) refl path (sym c.if-is_end.ensures.exact) here in
    let leads = sym c.up.invariant.same ∙ bare_resolved options files name c.up.at c.requires.bare ∙ ap (λ o. unwrap_or o target.None) (sym ends.target) ∙ sym (c.in_ok-target-2.ensures.value ∙ c.unwrap_or.ensures) in
    let all = push_all (LeadsTo options files name (resolved_in options files c.args.folder.now name)) c.up.passed c.up.at c.up.invariant.passed c.up.invariant.same in
    subst (λ t. AllByRecursion (LeadsTo options files name t) c.push.new.self) leads
    (subst (AllByRecursion (LeadsTo options files name (resolved_in options files c.args.folder.now name))) (sym (c.in_ok-push.ensures.ok ∙ ap (λ x. c.up.passed ++ x ∷ []) c.in_ok-clone.ensures.cases)) all)

pub returns-then-is_end-clause-probes : goal.returns-then-is_end-clause-probes
returns-then-is_end-clause-probes c =
    let place = c.args.self.now in
    let options = place.options.now in
    let files = place.files.now in
    let name = c.args.name.now in
    let here = ends_at place.endings files c.up.notes.log _ c.in_ok-found.found _ _ (ap (λ n. held_by options files n c.up.at) c.as_str.ensures.bytes) c.in_ok-found.ensures.exact in
    let path : IsPath c.up.at = subst IsPath c.at-then-is_end.view_is c.at-then-is_end.invariant in
    let ends = ends_here place.endings options files name c.up.at c.up.notes.log _ c.in_ok-found.found (is_root c.up.at) refl path (sym c.if-is_end.ensures.exact) here in
    λ e. subst (IsLogged place.endings files c.args.notes.now.log c.first_held.new.notes.log) (sym (bare_candidates options files name c.args.folder.now c.requires.bare)) (c.up.invariant.left _ c.in_ok-found.found ends).logged

pub up-smaller : goal.up-smaller
up-smaller c =
    let path : IsPath c.up.at = subst IsPath c.at-in-up.view_is c.at-in-up.invariant in
    let on = goes_on c.in_ok-found.found (is_root c.up.at) (sym c.if-is_end.ensures.exact) in
    let few = fewer c.up.at path on.1 in
    let e = ap (λ t. length (segments_of t)) c.in_ok-at-2.ensures.exact in
    omega arith

pub up-preserved : goal.up-preserved
up-preserved c =
    let place = c.args.self.now in
    let options = place.options.now in
    let files = place.files.now in
    let name = c.args.name.now in
    let at = c.up.at in
    let here = ends_at place.endings files c.up.notes.log _ c.in_ok-found.found _ _ (ap (λ n. held_by options files n c.up.at) c.as_str.ensures.bytes) c.in_ok-found.ensures.exact in
    let path : IsPath at = subst IsPath c.at-in-up.view_is c.at-in-up.invariant in
    let on = goes_on c.in_ok-found.found (is_root at) (sym c.if-is_end.ensures.exact) in
    let up = held_up options files name at path on.1 in
    let goal_of = resolved_in options files c.args.folder.now name in
    record {
      read = c.in_ok-found.ensures.read;
      same = ap (λ x. resolved_in options files x name) c.in_ok-at-2.ensures.exact ∙ sym (bare_on options files name at c.requires.bare path on.1 (sym on.0 ∙ here.target)) ∙ c.up.invariant.same;
      passed = subst (AllByRecursion (LeadsTo options files name goal_of)) (sym (c.in_ok-push.ensures.ok ∙ ap (λ x. c.up.passed ++ x ∷ []) c.in_ok-clone.ensures.cases))
          (push_all (LeadsTo options files name goal_of) c.up.passed at c.up.invariant.passed c.up.invariant.same);
      left = λ after found h.
          c.up.invariant.left after found
          (ends_at place.endings files c.up.notes.log _ found _ _ (sym up)
          (ends_then place.endings files c.up.notes.log _ after found (held_by options files name at) (held_from options files name (folder_of at))
          (ends_found place.endings files c.up.notes.log _ _ _ _ on.0 here)
          (ends_at place.endings files _ after found _ _ (ap (held_from options files name) c.in_ok-at-2.ensures.exact) h)));
    }
