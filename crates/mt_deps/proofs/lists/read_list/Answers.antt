-- Each token of a list goes on to its items.
use Rattle.std.proofs.Common.{arith, ◌≡◌, ◌+◌, ◌∷◌, [], take, sym, ◌∙◌, refl, ap}
use Rattle.std.specs.Prelude.{option_map}
use Rattle.mt_tokens.specs.Forms.{list}
use Rattle.mt_deps.specs.Seen.{seen_of}
use Rattle.mt_deps.proofs.ListSteps.{lead, begun_step, begun_within, step_more, step_comma}
use Rattle.mt_deps.proofs.Steps.{seen_within}
use Rattle.mt_deps.proofs.lists.read_list.Goals as goal

pub loop-here-preserved-else-not-branch-2 : goal.loop-here-preserved-else-not-branch-2
loop-here-preserved-else-not-branch-2 c =
    let i = c.loop-here.invariant in
    let r : seen_of c.loop-here.rest ≡ c.in-Some.here ∷ seen_of c.in-Some.after = c.in-Some.ensures in
    let b = sym c.is_mark_token.ensures.mark ∙ c.if-is_mark_token.false in
    let m = sym c.is_mark_token-in-Some.ensures.mark ∙ c.if-is_mark_token-2.true in
    let s = step_comma c.args.bytes.now (take c.loop-here.count (seen_of c.loop-here.from)) c.in-Some.here (seen_of c.in-Some.after) c.loop-here.items c.add_item-then-is_mark_token-2.new.items b m (c.in_ok-add_item-2.ensures.some c.if-not-branch-2.false) in
    record { within = omega arith; placed = refl; left = sym s ∙ (rw r at i.left) }

pub loop-here-preserved : goal.loop-here-preserved
loop-here-preserved c =
    let i = c.loop-here.invariant in
    let r : seen_of c.loop-here.rest ≡ c.in-Some.here ∷ seen_of c.in-Some.after = c.in-Some.ensures in
    let b = sym c.is_mark_token.ensures.mark ∙ c.if-is_mark_token.false in
    let m = sym c.is_mark_token-in-Some.ensures.mark ∙ c.if-is_mark_token-2.false in
    let p = begun_step (seen_of c.loop-here.from) c.loop-here.count c.in-Some.here (seen_of c.in-Some.after) (i.placed ∙ r) in
    let s = step_more c.args.bytes.now (take c.loop-here.count (seen_of c.loop-here.from)) c.in-Some.here (seen_of c.in-Some.after) b m in
    let left : option_map (lead c.loop-here.items) (list c.args.bytes.now (take (c.loop-here.count + 1) (seen_of c.loop-here.from)) (seen_of c.in-Some.after)) ≡ list c.args.bytes.now [] (seen_of c.args.tokens) =
    rw p.0 (ap (option_map (lead c.loop-here.items)) (sym s) ∙ (rw r at i.left)) in
    record { within = begun_within (seen_of c.loop-here.from) c.loop-here.count c.in-Some.here (seen_of c.in-Some.after) (i.placed ∙ r); placed = p.1; left = left }

pub overflow_add-count : goal.overflow_add-count
overflow_add-count c =
    let from = c.loop-here.from in
    let w = begun_within (seen_of from) c.loop-here.count c.in-Some.here (seen_of c.in-Some.after) (c.loop-here.invariant.placed ∙ c.in-Some.ensures) in
    let m = seen_within from.tokens.now in
    let few = from.few in
    omega (arith, w, m, few)
