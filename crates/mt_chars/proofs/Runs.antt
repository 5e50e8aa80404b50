-- Runs of blanks, of parts of names and of letters after a regular expression.
use Rattle.std.proofs.Common.{arith, ◌≡◌, ◌<◌, ◌≤◌, ◌+◌, ◌-◌, ℕ, zero, suc, true, false, cond, List, [], ◌∷◌, length, drop, refl, sym, ap, ◌∙◌, nat_lt}
use Rattle.std.proofs.lemmas.Bool.Decides.{nat_tests}
use Rattle.std.proofs.lemmas.List.{drop_all, drop-drop}
use Rattle.mt_chars.specs.Names.{run_after, run_len, unit_len}
use Rattle.mt_chars.specs.declared.names.RunOf.{RunOf}

-- what is counted already is passed
pub run-taken : (of : RunOf) (taken : ℕ) (rest : List ℕ) → taken ≤ length rest → run_after of taken rest ≡ taken + run_len of (drop taken rest)
run-taken of zero rest h = omega arith
run-taken of (suc taken) [] h = absurd (omega arith)
run-taken of (suc taken) (b ∷ rest) h =
    let t : nat_lt 0 (suc taken) ≡ true = grind (arith, nat_tests) in
    let f : suc taken - 1 ≡ taken = omega arith in
    let i = run-taken of taken rest (omega arith) in
    let s : run_after of (suc taken) (b ∷ rest) ≡ run_after of taken rest + 1 = rw (t, f) refl in
    let z : run_after of taken rest + 1 ≡ suc taken + run_len of (drop taken rest) = omega (arith, i) in
    s ∙ z

-- one more part
pub run-step : (of : RunOf) (rest : List ℕ) (n : ℕ) → unit_len of rest ≡ n → 0 < n → n ≤ length rest → run_len of rest ≡ n + run_len of (drop n rest)
run-step of [] n e p l = absurd (omega arith)
run-step of (b ∷ rest) n e p l =
    let t : nat_lt 0 (unit_len of (b ∷ rest)) ≡ true = grind (arith, nat_tests) in
    let s : run_len of (b ∷ rest) ≡ run_after of (unit_len of (b ∷ rest) - 1) rest + 1 = ap (λ x. cond x (run_after of (unit_len of (b ∷ rest) - 1) rest + 1) 0) t in
    let m : unit_len of (b ∷ rest) - 1 ≡ n - 1 = ap (λ k. k - 1) e in
    let k : n ≡ suc (n - 1) = omega arith in
    let i = run-taken of (n - 1) rest (omega arith) in
    let d : drop (n - 1) rest ≡ drop n (b ∷ rest) = ap (λ k. drop k (b ∷ rest)) (sym k) in
    let r : run_len of (drop (n - 1) rest) ≡ run_len of (drop n (b ∷ rest)) = ap (run_len of) d in
    let z : run_after of (n - 1) rest + 1 ≡ n + run_len of (drop n (b ∷ rest)) = omega (arith, i, r) in
    s ∙ ap (λ j. run_after of j rest + 1) m ∙ z

-- no further part
pub run-stop : (of : RunOf) (rest : List ℕ) → unit_len of rest ≡ 0 → run_len of rest ≡ 0
run-stop of [] e = refl
run-stop of (b ∷ rest) e = let t : nat_lt 0 (unit_len of (b ∷ rest)) ≡ false = grind (arith, nat_tests) in ap (λ x. cond x (run_after of (unit_len of (b ∷ rest) - 1) rest + 1) 0) t

-- the same from a place on
pub run_more : (of : RunOf) (rest : List ℕ) (at n : ℕ) → at ≤ length rest → unit_len of (drop at rest) ≡ n → 0 < n → n ≤ length (drop at rest) → at + run_len of (drop at rest) ≡ at + n + run_len of (drop (at + n) rest)
run_more of rest at n h e p l =
    let s = run-step of (drop at rest) n e p l in
    let d : run_len of (drop n (drop at rest)) ≡ run_len of (drop (at + n) rest) = ap (run_len of) (drop-drop n at rest) in
    omega (arith, s, d)

pub run_ends : (of : RunOf) (rest : List ℕ) (at : ℕ) → length rest ≤ at → run_len of (drop at rest) ≡ 0
run_ends of rest at h = ap (run_len of) (drop_all at rest h)
