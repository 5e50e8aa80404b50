-- The regular expression's end is within the text.
use Rattle.std.proofs.Common.{arith, ℕ, List, ◌≡◌, ◌≤◌, Some, false, take, drop, length, ◌-◌}
use Rattle.std.proofs.lemmas.List.{length-drop, length-take}
use Rattle.mt_tokens.specs.Regexes.{body_len}
use Rattle.mt_tokens.proofs.Extents.{body_end}
use Rattle.mt_tokens.proofs.regexes.regex.Goals as goal

-- what follows the slash
abbrev after : List ℕ → List ℕ
after rest = take (length rest - 1) (drop 1 rest)

-- the body is within what follows the slash
body_in : (rest : List ℕ) (len : ℕ) → Some len ≡ body_len false false (after rest) → len ≤ length rest - 1
body_in rest len is = let l = (body_end (after rest) len is).1 in omega (arith, l, length-take (length rest - 1) (drop 1 rest))

pub overflow_add-result : goal.overflow_add-result
overflow_add-result c = omega (arith, body_in c.args.rest.now c.in-Some.len c.in-Some.ensures)

pub slice_bounds-front_run_len-count : goal.slice_bounds-front_run_len-count
slice_bounds-front_run_len-count c = let l = (body_end (after c.args.rest.now) c.in-Some.len c.in-Some.ensures).1 in omega (arith, l)

pub slice_bounds-front_run_len-start : goal.slice_bounds-front_run_len-start
slice_bounds-front_run_len-start c = let l = (body_end (after c.args.rest.now) c.in-Some.len c.in-Some.ensures).1 in omega (arith, l)

pub overflow_add-result-in-Some : goal.overflow_add-result-in-Some
overflow_add-result-in-Some c =
    let body = after c.args.rest.now in
    let l = body_in c.args.rest.now c.in-Some.len c.in-Some.ensures in
    let w = c.front_run_len.ensures.within in
    let t = length-take (length body - c.in-Some.len) (drop c.in-Some.len body) in
    omega (arith, l, w, t, length-drop c.in-Some.len body, length-take (length c.args.rest.now - 1) (drop 1 c.args.rest.now))
