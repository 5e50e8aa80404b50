-- The steps of the reader: what its parts give joined to what the bytes say.
use Rattle.std.proofs.Common.{◌≡◌, ◌<◌, ◌≤◌, ◌+◌, List, ℕ, ◌++◌, length, take, drop, get_or, sym, ap, subst, ◌∙◌, arith, append_assoc, append-nil, length-take, [], Option, Some, None}
use Rattle.std.proofs.Math.Seq.{take-add}
use Rattle.std.proofs.lemmas.List.{drop-drop, get_or-take, take-append-drop, take-take}
use Rattle.mt_io.specs.Told.{Reading, read_on}
use Rattle.mt_script.specs.Heads.{head_of}
use Rattle.mt_script.specs.Reads.{Finds, Holds, Interrupted, IsOf, IsSpent, Lacks, FindsHead, Takes}
use Rattle.mt_script.specs.Steps.{Step, Found, Stopped, limited_step, line_end, next_of, put_step}
use Rattle.mt_script.specs.declared.command.Command.{Command}
use Rattle.mt_script.specs.declared.command.Command.TheVariants.{Put}
use Rattle.mt_script.specs.declared.fault.ScriptFault.{ScriptFault}
use Rattle.mt_script.specs.declared.fault.ScriptFault.TheVariants.{Bad, Cut}
use Rattle.mt_script.specs.declared.line.LineEnd.TheVariants.{Whole, TooLong, Unfinished}
use Rattle.mt_script.specs.declared.command_head.CommandHead.{CommandHead}
use Rattle.mt_script.specs.declared.command_head.CommandHead.TheVariants as head
use Rattle.mt_script.proofs.Steps.{next_asks, next_bad, next_long, next_open, put_bad, put_cut, put_found, put_small, step_within}
use Rattle.mt_script.proofs.Advances.{read_twice}
use Rattle.mt_script.proofs.Holds.{held_and_left, spent_all}

-- the line is too long
pub held_long : (n : ℕ) (r : Reading) (told : Option Reading) (a b : List ℕ) → Holds r told a b → line_end b ≡ TooLong → next_of n (a ++ r.left) ≡ Stopped (Bad (n + 1))
held_long n r told a b h e = ap (next_of n) (held_and_left r told a b h) ∙ next_long n b (drop h.count r.left) e

-- the source ended within the line
pub held_open : (n : ℕ) (r : Reading) (told : Option Reading) (a b : List ℕ) → Holds r told a b → IsSpent told → line_end b ≡ Unfinished → next_of n (a ++ r.left) ≡ Stopped (Cut (n + 1))
held_open n r told a b h spent e = ap (next_of n) (sym (spent_all r told a b h spent)) ∙ next_open n b e

-- a read failed within the line
pub held_failed : (n : ℕ) (r : Reading) (told : Option Reading) (a b : List ℕ) → Holds r told a b → line_end b ≡ Unfinished → Interrupted (next_of n) (n + 1) r told a
held_failed n r told a b h e = record { count = h.count; now = h.now; cut = ap (next_of n) (sym h.held) ∙ next_open n b e }

-- the line is no head
pub held_bad : (n : ℕ) (r : Reading) (told : Option Reading) (a b : List ℕ) (len : ℕ) → Holds r told a b → line_end b ≡ Whole len → head_of (take len b) ≡ None → next_of n (a ++ r.left) ≡ Stopped (Bad (n + 1))
held_bad n r told a b len h e none = ap (next_of n) (held_and_left r told a b h) ∙ next_bad n b (drop h.count r.left) len e none

-- the line is a head
pub held_asks : (n : ℕ) (r : Reading) (told : Option Reading) (a b c : List ℕ) (len : ℕ) (asked : CommandHead) → Holds r told a b → line_end b ≡ Whole len → head_of (take len b) ≡ Some asked → c ≡ drop (len + 1) b → FindsHead n r told a c asked
held_asks n r told a b c len asked h e asks rest = record {
  count = h.count;
  now = h.now;
  step = λ more. ap (λ (xs : List ℕ). next_of n (xs ++ more)) (sym h.held) ∙ next_asks n b more len asked e asks ∙ ap (λ (xs : List ℕ). limited_step n asked (xs ++ more)) (sym rest);
}

-- the line is a head among what was held, and nothing was read
pub asks_held : (n : ℕ) (a b c : List ℕ) (len : ℕ) (asked : CommandHead) → b ≡ a → line_end b ≡ Whole len → head_of (take len b) ≡ Some asked → c ≡ drop (len + 1) b → next_of n a ≡ limited_step n asked c
asks_held n a b c len asked same e asks rest =
    ap (next_of n) (sym same ∙ sym (append-nil b))
    ∙ next_asks n b [] len asked e asks
    ∙ ap (limited_step n asked) (append-nil (drop (len + 1) b) ∙ sym rest)

-- the bytes of a `put` and the line feed
pub put_taken : (n : ℕ) (path : List ℕ) (size : ℕ) (r : Reading) (told : Option Reading) (old new taken bytes : List ℕ) → Takes r told old new (size + 1) taken → get_or taken size 0 ≡ 10 → bytes ≡ take size taken → Finds (put_step n path size) r told old new (Put path bytes)
put_taken n path size r told old new taken bytes t feed e =
    let all = old ++ r.left in
    let inside : size < length all = omega (arith, t.enough) in
    let here : get_or all size 0 ≡ 10 = sym (get_or-take (size + 1) all size 0 (omega arith)) ∙ ap (λ (xs : List ℕ). get_or xs size 0) (sym t.first) ∙ feed in
    let prefix : take size all ≡ bytes = sym (take-take size (size + 1) all (omega arith)) ∙ ap (take size) (sym t.first) ∙ sym e in
    record {
      count = t.count;
      now = t.now;
      found = put_found n path size all inside here ∙ ap (λ (xs : List ℕ). Found (Put path xs) (drop (size + 1) all)) prefix ∙ ap (λ (xs : List ℕ). Found (Put path bytes) xs) (sym t.rest);
    }

-- no line feed after the bytes
pub put_refused : (n : ℕ) (path : List ℕ) (size : ℕ) (r : Reading) (told : Option Reading) (old new taken : List ℕ) → Takes r told old new (size + 1) taken → (get_or taken size 0 ≡ 10 → ⊥) → put_step n path size (old ++ r.left) ≡ Stopped (Bad (n + 1))
put_refused n path size r told old new taken t other =
    let all = old ++ r.left in
    let here : get_or taken size 0 ≡ get_or all size 0 = ap (λ (xs : List ℕ). get_or xs size 0) t.first ∙ get_or-take (size + 1) all size 0 (omega arith) in
    put_bad n path size all (omega (arith, t.enough)) (λ e. other (here ∙ e))

-- a read failed within the bytes
pub put_failed : (n : ℕ) (path : List ℕ) (size : ℕ) (r : Reading) (told : Option Reading) (old : List ℕ) → Lacks r told old (size + 1) → Interrupted (put_step n path size) (n + 1) r told old
put_failed n path size r told old h = record { count = h.count; now = h.now; cut = put_cut n path size (old ++ take h.count r.left) (omega (arith, h.short)) }

-- all that was held and left before the line was read
head_all : (n : ℕ) (r : Reading) (told : Option Reading) (a b : List ℕ) (asked : CommandHead) (h : FindsHead n r told a b asked) → next_of n (a ++ r.left) ≡ limited_step n asked (b ++ drop h.count r.left)
head_all n r told a b asked h =
    ap (next_of n) (ap (λ (xs : List ℕ). a ++ xs) (sym (take-append-drop h.count r.left)) ∙ sym (append_assoc a (take h.count r.left) (drop h.count r.left))) ∙ h.step (drop h.count r.left)

pub head_found : (n : ℕ) (r : Reading) (told now : Option Reading) (a b c : List ℕ) (asked : CommandHead) (command : Command) (h : FindsHead n r told a b asked) → Finds (limited_step n asked) (read_on h.count r) now b c command → Finds (next_of n) r now a c command
head_found n r told now a b c asked command h k = record {
  count = h.count + k.count;
  now = k.now ∙ ap Some (read_twice r h.count k.count);
  found = head_all n r told a b asked h ∙ k.found ∙ ap (λ (xs : List ℕ). Found command (c ++ xs)) (drop-drop k.count h.count r.left);
}

is_of_same : (f : ScriptFault) (s t : Step) → s ≡ t → IsOf f t → IsOf f s
is_of_same f s t e h = subst (IsOf f) (sym e) h

pub head_refused : (n : ℕ) (r : Reading) (told : Option Reading) (a b : List ℕ) (asked : CommandHead) (f : ScriptFault) (h : FindsHead n r told a b asked) → IsOf f (limited_step n asked (b ++ drop h.count r.left)) → IsOf f (next_of n (a ++ r.left))
head_refused n r told a b asked f h k = is_of_same f (next_of n (a ++ r.left)) (limited_step n asked (b ++ drop h.count r.left)) (head_all n r told a b asked h) k

pub head_failed : (n : ℕ) (r : Reading) (told now : Option Reading) (a b : List ℕ) (asked : CommandHead) (h : FindsHead n r told a b asked) → Interrupted (limited_step n asked) (n + 1) (read_on h.count r) now b → Interrupted (next_of n) (n + 1) r now a
head_failed n r told now a b asked h k = record {
  count = h.count + k.count;
  now = k.now ∙ ap Some (read_twice r h.count k.count);
  cut =
      ap (next_of n) (ap (λ (xs : List ℕ). a ++ xs) (take-add h.count k.count r.left) ∙ sym (append_assoc a (take h.count r.left) (take k.count (drop h.count r.left))))
      ∙ h.step (take k.count (drop h.count r.left)) ∙ k.cut;
}

-- bytes that were taken reach as far as they should
pub taken_inside : (r : Reading) (told : Option Reading) (old new : List ℕ) (size : ℕ) (taken : List ℕ) → Takes r told old new (size + 1) taken → size < length taken
taken_inside r told old new size taken t = omega (arith, ap length t.first, length-take (size + 1) (old ++ r.left), t.enough)

-- the step of a `put` within the limits
pub limited_put : (n : ℕ) (asked : CommandHead) (path : List ℕ) (size : ℕ) → asked ≡ head.Put path size → n < 1048576 → size ≤ 16777216 → (bytes : List ℕ) → limited_step n asked bytes ≡ put_step n path size bytes
limited_put n asked path size same room small bytes = ap (λ (x : CommandHead). limited_step n x bytes) same ∙ step_within n (head.Put path size) bytes room ∙ put_small n path size bytes small

-- what is said of a step is said of one that is the same
pub finds_same : (step other : List ℕ → Step) (r : Reading) (told : Option Reading) (old new : List ℕ) (command : Command) → ((bytes : List ℕ) → other bytes ≡ step bytes) → Finds step r told old new command → Finds other r told old new command
finds_same step other r told old new command same h = record { count = h.count; now = h.now; found = same (old ++ r.left) ∙ h.found }

pub interrupted_same : (step other : List ℕ → Step) (number : ℕ) (r : Reading) (told : Option Reading) (old : List ℕ) → ((bytes : List ℕ) → other bytes ≡ step bytes) → Interrupted step number r told old → Interrupted other number r told old
interrupted_same step other number r told old same h = record { count = h.count; now = h.now; cut = same (old ++ take h.count r.left) ∙ h.cut }
