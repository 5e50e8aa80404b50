-- What a command asks to do.
use Rattle.std.proofs.Common.{◌≡◌, ◌<◌, ◌≤◌, ◌^◌, ℕ, List, [], ◌∷◌, Bool, true, false, cond, Option, Some, None, sym, subst, arith, codes}
use Rattle.std.specs.List.{AllZip}
use Rattle.std.specs.Option.{option_map, unwrap_or}
use Rattle.std.specs.Str.{bytes_eq}
use Rattle.mt_words.specs.Lines.{ArePositionals}
use Rattle.mt_words.specs.Tables.{amounts, commands, named}
use Rattle.mt_words.specs.Values.{is_value, number_of}
use Rattle.mt_words.specs.declared.table.CommandSet.TheVariants.{Still}
use Rattle.mt_words.specs.declared.table.Usage.{Usage}
use Rattle.mt_words.specs.declared.table.Usage.TheVariants.{Build, Replay, Grow}
use Rattle.mt_words.specs.declared.value.ValueKind.TheVariants.{Number}
use Rattle.mt_words.specs.declared.words.Words.{Words}
use Rattle.mt_request.specs.Growths.{IsBounded, IsGrowth, action_of, growth_of}
use Rattle.mt_request.specs.Requests.{AreSaid}
use Rattle.mt_request.specs.declared.growth.Action.TheVariants.{Bundle, Deps, Check, Replay as Replays, Grow as Grows}
use Rattle.mt_request.proofs.Workers.{within}

between : (least most : ℕ) (word : List ℕ) → is_value (Number least most) word ≡ true → (n : ℕ) × (number_of word ≡ Some n) × (least ≤ n) × (n ≤ most)
unfolding is_value
between least most word h = within least most (number_of word) h

-- three numbers within their bounds are a growth
growth_fits : (words : List (List ℕ)) → AllZip (λ kind word. is_value kind word ≡ true) amounts words → IsGrowth (growth_of words)
unfolding amounts
growth_fits [] h = absurd h
growth_fits (a ∷ []) h = absurd h.1
growth_fits (a ∷ b ∷ []) h = absurd h.1.1
growth_fits (a ∷ b ∷ c ∷ d ∷ words) h = absurd h.1.1.1
growth_fits (a ∷ b ∷ c ∷ []) h =
    let p = between 0 18446744073709551615 a h.0 in
    let q = between 1 50000 b h.1.0 in
    let r = between 0 10000 c h.1.1.0 in
    let most = p.3 in
    record {
      seed = subst (λ o. unwrap_or o 0 < 2 ^ 64) (sym p.1) (omega (arith, most));
      some = subst (λ o. 1 ≤ unwrap_or o 0) (sym q.1) q.2;
      most = subst (λ o. unwrap_or o 0 ≤ 50000) (sym q.1) q.3;
      few = subst (λ o. unwrap_or o 0 ≤ 10000) (sym r.1) r.3;
    }

-- the use of a command, by its name
abbrev pub Uses : Bool → Bool → Bool → Bool → Bool → Usage → Type 0
Uses bundle deps check replay grow usage =
    option_map (λ (row : List ℕ × Usage). row.1)
    (cond bundle (Some (codes "bundle", Build))
    (cond deps (Some (codes "deps", Build))
    (cond check (Some (codes "check", Build))
    (cond replay (Some (codes "replay", Replay))
    (cond grow (Some (codes "grow", Grow)) None)))))
    ≡ Some usage

-- what the table of the commands says of a name
pub uses : (command : List ℕ) (usage : Usage) → named (commands Still) command ≡ Some usage → Uses (bytes_eq command (codes "bundle")) (bytes_eq command (codes "deps")) (bytes_eq command (codes "check")) (bytes_eq command (codes "replay")) (bytes_eq command (codes "grow")) usage
unfolding commands
uses command usage h = h

grows : (usage : Usage) (words : List (List ℕ)) → ◌≡◌ {A = Option Usage} (Some Grow) (Some usage) → ArePositionals usage words → IsGrowth (growth_of words)
grows usage words h fit = let own : usage ≡ Grow = cc in growth_fits words (subst (λ u. ArePositionals u words) own fit)

action_by : (bundle deps check replay grow : Bool) (usage : Usage) (words : List (List ℕ)) → Uses bundle deps check replay grow usage → ArePositionals usage words → IsBounded (cond bundle Bundle (cond deps Deps (cond check Check (cond replay Replays (Grows (growth_of words))))))
action_by true deps check replay grow usage words h fit = tt
action_by false true check replay grow usage words h fit = tt
action_by false false true replay grow usage words h fit = tt
action_by false false false true grow usage words h fit = tt
action_by false false false false true usage words h fit = grows usage words h fit
action_by false false false false false usage words h fit = absurd (cc)

-- what a line asks to grow is within its bounds
pub action_bounded : (words : Words) → AreSaid words → IsBounded (action_of words.command words.positionals)
action_bounded words said =
    let l = said.says in
    action_by _ _ _ _ _ l.usage words.positionals (uses words.command l.usage l.command) l.fit
