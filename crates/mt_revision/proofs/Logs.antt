-- Legal logs.
use Rattle.std.proofs.Common.{◌≡◌, ◌≤◌, ◌<◌, ◌+◌, ◌∙◌, ℕ, zero, suc, List, [], ◌∷◌, ◌++◌, map, length, take, Some, Ok, Err, refl, ap, sym, subst, arith, append-nil, append_assoc, length-append}
use Rattle.std.specs.List.{All, IsDistinct, fold, range_with_len, slice_index_or}
use Rattle.std.proofs.lemmas.List.Elements.{All-cons}
use Rattle.std.specs.List.Sorted.{IsNonDecreasing}
use Rattle.std.specs.Str.{bytes_eq}
use Rattle.mt_files.specs.Asks.{Ask}
use Rattle.mt_files.specs.Snapshots.{Snapshot}
use Rattle.mt_files.specs.Fresh.{all_faults, decided, edges_of, fresh}
use Rattle.mt_files.specs.Reach.{reach}
use Rattle.mt_files.specs.Changes.{stepped}
use Rattle.mt_files.specs.declared.change.Change.{Change}
use Rattle.mt_files.proofs.Reach.{reach_ascending}
use Rattle.mt_revision.specs.Revisions.{next_number}
use Rattle.mt_revision.specs.Contents.{HasContent, revision_after}
use Rattle.mt_revision.specs.Logs.{Accepted, Denied, IsAccepted, IsLegal, IsLegalAfter, IsNext, Logged, Reached, count_of, files_at, numbering_at, reached_after, reached_by, revisions_of, unlogged}
use Rattle.mt_revision.specs.declared.revision.Revision.{Revision}
use Rattle.mt_revision.proofs.Extensions.{ascending_distinct, extended_distinct, extended_more}
use Rattle.mt_revision.proofs.Revisions.{after_only}

module _ (ask : Ask) (files : Snapshot) (journal : List Change) where
  -- ---- numbers

  numbers_from : (before : Reached) (log : List Logged) → IsLegalAfter ask files journal before log
      → map (λ r. r.number) (revisions_of log) ≡ range_with_len (next_number before.latest) (length (revisions_of log))
  numbers_from before [] h = refl
  numbers_from before (Accepted r ∷ log) h =
      ap (λ ns. r.number ∷ ns) (numbers_from (reached_after ask files journal before (Accepted r)) log h.1)
      ∙ ap (λ n. n ∷ range_with_len (n + 1) (length (revisions_of log))) h.0.made.number
  numbers_from before (Denied count fault ∷ log) h = numbers_from (reached_after ask files journal before (Denied count fault)) log h.1

  -- ---- counts

  next_later : (before : Reached) (build : Logged) → IsNext ask files journal before build → before.count ≤ count_of build
  next_later before (Accepted r) h = h.later
  next_later before (Denied count fault) h = h.later

  next_counted : (before : Reached) (build : Logged) → IsNext ask files journal before build → count_of build ≤ length journal
  next_counted before (Accepted r) h = h.counted
  next_counted before (Denied count fault) h = h.counted

  reached_count : (before : Reached) (build : Logged) → (reached_after ask files journal before build).count ≡ count_of build
  reached_count before (Accepted r) = refl
  reached_count before (Denied count fault) = refl

  above_all : (before : Reached) (log : List Logged) → IsLegalAfter ask files journal before log → (j d : ℕ) → j < length (map count_of log) → before.count ≤ slice_index_or (map count_of log) j d
  above_all before [] h j d w = absurd (omega arith)
  above_all before (build ∷ log) h zero d w = next_later before build h.0
  above_all before (build ∷ log) h (suc j) d w =
      let a = next_later before build h.0 in
      let b = above_all (reached_after ask files journal before build) log h.1 j d (omega (arith, w)) in
      let c = reached_count before build in
      omega (arith, a, b, c)

  counts_from : (before : Reached) (log : List Logged) → IsLegalAfter ask files journal before log → IsNonDecreasing (map count_of log)
  counts_from before [] h i j d w v = absurd (omega arith)
  counts_from before (build ∷ log) h zero zero d w v = omega arith
  counts_from before (build ∷ log) h zero (suc j) d w v =
      let b = above_all (reached_after ask files journal before build) log h.1 j d (omega (arith, v)) in
      let c = reached_count before build in
      omega (arith, b, c)
  counts_from before (build ∷ log) h (suc i) zero d w v = absurd (omega (arith, w))
  counts_from before (build ∷ log) h (suc i) (suc j) d w v = counts_from (reached_after ask files journal before build) log h.1 i j d (omega (arith, w)) (omega (arith, v))

  within_from : (before : Reached) (log : List Logged) → IsLegalAfter ask files journal before log → All (λ build. count_of build ≤ length journal) log
  within_from before [] h = λ k d w. absurd (omega arith)
  within_from before (build ∷ log) h = All-cons (λ b. count_of b ≤ length journal) build log (next_counted before build h.0) (within_from (reached_after ask files journal before build) log h.1)

  -- ---- the counts determine the log

  abbrev files_of : ℕ → Snapshot
  files_of count = files_at files journal count

  next_revision : (before : Reached) (r : Revision) → IsAccepted ask files journal before r → r ≡ revision_after ask before.latest r.changes (numbering_at ask before (files_of r.changes)) (files_of r.changes)
  next_revision before r h = after_only ask before.latest r (numbering_at ask before (files_of r.changes)) (files_of r.changes) h.content h.made

  same_next : (before : Reached) (build other : Logged) → IsNext ask files journal before build → IsNext ask files journal before other → count_of build ≡ count_of other → build ≡ other
  same_next before (Accepted r) (Accepted s) h k e =
      ap Accepted (next_revision before r h ∙ ap (λ n. revision_after ask before.latest n (numbering_at ask before (files_of n)) (files_of n)) e ∙ sym (next_revision before s k))
  same_next before (Accepted r) (Denied n f) h k e =
      let fine : all_faults ask (files_of r.changes) ≡ [] = h.content.faultless in
      let ok : fresh ask (files_of n) ≡ Ok (edges_of ask.options (files_of n) (reach ask (files_of n))) = ap (decided (edges_of ask.options (files_of n) (reach ask (files_of n)))) (ap (λ c. all_faults ask (files_of c)) (sym e) ∙ fine) in
      let no : Ok (edges_of ask.options (files_of n) (reach ask (files_of n))) ≡ Err f = sym ok ∙ k.first in
      cc
  same_next before (Denied n f) (Accepted s) h k e =
      let fine : all_faults ask (files_of s.changes) ≡ [] = k.content.faultless in
      let ok : fresh ask (files_of n) ≡ Ok (edges_of ask.options (files_of n) (reach ask (files_of n))) = ap (decided (edges_of ask.options (files_of n) (reach ask (files_of n)))) (ap (λ c. all_faults ask (files_of c)) e ∙ fine) in
      let no : Ok (edges_of ask.options (files_of n) (reach ask (files_of n))) ≡ Err f = sym ok ∙ h.first in
      cc
  same_next before (Denied n f) (Denied m g) h k e =
      let same : Err f ≡ Err g = sym h.first ∙ ap (λ c. fresh ask (files_of c)) e ∙ k.first in
      let fault : f ≡ g = cc in
      λ i. Denied (e i) (fault i)

  same_log : (before : Reached) (log other : List Logged) → IsLegalAfter ask files journal before log → IsLegalAfter ask files journal before other → map count_of log ≡ map count_of other → log ≡ other
  same_log before [] [] h k e = refl
  same_log before [] (c ∷ other) h k e = cc
  same_log before (b ∷ log) [] h k e = cc
  same_log before (b ∷ log) (c ∷ other) h k e =
      let first : count_of b ≡ count_of c = cc in
      let rest : map count_of log ≡ map count_of other = cc in
      let same : b ≡ c = same_next before b c h.0 k.0 first in
      let left : log ≡ other = same_log (reached_after ask files journal before b) log other h.1 (subst (λ z. IsLegalAfter ask files journal (reached_after ask files journal before z) other) (sym same) k.1) rest in
      λ i. same i ∷ left i

  -- ---- longer logs and journals

  -- one more build
  pub legal_more : (before : Reached) (log : List Logged) (build : Logged) → IsLegalAfter ask files journal before log → IsNext ask files journal (reached_by ask files journal before log) build → IsLegalAfter ask files journal before (log ++ build ∷ [])
  legal_more before [] build h k = (k, tt)
  legal_more before (b ∷ log) build h k = (h.0, legal_more (reached_after ask files journal before b) log build h.1 k)

  pub reached_more : (before : Reached) (log : List Logged) (build : Logged) → reached_by ask files journal before (log ++ build ∷ []) ≡ reached_after ask files journal (reached_by ask files journal before log) build
  reached_more before [] build = refl
  reached_more before (b ∷ log) build = reached_more (reached_after ask files journal before b) log build

  -- more changes
  take_more : (xs ys : List Change) (n : ℕ) → n ≤ length xs → take n (xs ++ ys) ≡ take n xs
  take_more xs ys zero w = refl
  take_more [] ys (suc n) w = absurd (omega arith)
  take_more (x ∷ xs) ys (suc n) w = ap (λ zs. x ∷ zs) (take_more xs ys n (omega (arith, w)))

  files_longer : (more : List Change) (n : ℕ) → n ≤ length journal → files_at files (journal ++ more) n ≡ files_of n
  files_longer more n w = ap (fold stepped files) (take_more journal more n w)

  reached_longer_after : (more : List Change) (before : Reached) (build : Logged) → count_of build ≤ length journal → reached_after ask files (journal ++ more) before build ≡ reached_after ask files journal before build
  reached_longer_after more before (Accepted r) w = ap (λ f. record { latest = Some r; count = r.changes; numbering = numbering_at ask before f }) (files_longer more r.changes w)
  reached_longer_after more before (Denied n f) w = refl

  longer : (more : List Change) (n : ℕ) → n ≤ length journal → n ≤ length (journal ++ more)
  longer more n w = let l = length-append journal more in omega (arith, w, l)

  next_longer : (more : List Change) (before : Reached) (build : Logged) → IsNext ask files journal before build → IsNext ask files (journal ++ more) before build
  next_longer more before (Accepted r) h = record {
    later = h.later;
    counted = longer more r.changes h.counted;
    made = h.made;
    content = subst (λ f. HasContent ask r (numbering_at ask before f) f) (sym (files_longer more r.changes h.counted)) h.content;
  }
  next_longer more before (Denied n f) h = record { later = h.later; counted = longer more n h.counted; first = ap (fresh ask) (files_longer more n h.counted) ∙ h.first }

  pub legal_longer : (more : List Change) (before : Reached) (log : List Logged) → IsLegalAfter ask files journal before log → IsLegalAfter ask files (journal ++ more) before log
  legal_longer more before [] h = tt
  legal_longer more before (b ∷ log) h = (
    next_longer more before b h.0,
    subst (λ r. IsLegalAfter ask files (journal ++ more) r log) (sym (reached_longer_after more before b (next_counted before b h.0))) (legal_longer more (reached_after ask files journal before b) log h.1),
  )

  pub reached_longer : (more : List Change) (before : Reached) (log : List Logged) → IsLegalAfter ask files journal before log → reached_by ask files (journal ++ more) before log ≡ reached_by ask files journal before log
  reached_longer more before [] h = refl
  reached_longer more before (b ∷ log) h =
      ap (λ r. reached_by ask files (journal ++ more) r log) (reached_longer_after more before b (next_counted before b h.0)) ∙ reached_longer more (reached_after ask files journal before b) log h.1

  -- ---- the numbering that is reached

  more_numbers : (before : Reached) (build : Logged) → (more : List (List ℕ)) × ((reached_after ask files journal before build).numbering ≡ before.numbering ++ more)
  more_numbers before (Accepted r) = extended_more before.numbering ask.entries (reach ask (files_of r.changes))
  more_numbers before (Denied n f) = ([], sym (append-nil before.numbering))

  -- no number is given up or changed
  pub reached_numbers : (before : Reached) (log : List Logged) → (more : List (List ℕ)) × ((reached_by ask files journal before log).numbering ≡ before.numbering ++ more)
  reached_numbers before [] = ([], sym (append-nil before.numbering))
  reached_numbers before (b ∷ log) =
      let one = more_numbers before b in
      let all = reached_numbers (reached_after ask files journal before b) log in
      (one.0 ++ all.0, all.1 ∙ ap (λ ps. ps ++ all.0) one.1 ∙ append_assoc before.numbering one.0 all.0)

  distinct_after : (before : Reached) (build : Logged) → IsDistinct bytes_eq ask.entries → IsDistinct bytes_eq before.numbering → IsDistinct bytes_eq (reached_after ask files journal before build).numbering
  distinct_after before (Accepted r) e d = extended_distinct before.numbering ask.entries (reach ask (files_of r.changes)) d e (ascending_distinct (reach ask (files_of r.changes)) (reach_ascending ask (files_of r.changes)))
  distinct_after before (Denied n f) e d = d

  -- no path has two
  pub reached_distinct : (before : Reached) (log : List Logged) → IsDistinct bytes_eq ask.entries → IsDistinct bytes_eq before.numbering → IsDistinct bytes_eq (reached_by ask files journal before log).numbering
  reached_distinct before [] e d = d
  reached_distinct before (b ∷ log) e d = reached_distinct (reached_after ask files journal before b) log e (distinct_after before b e d)

-- ---- from the first build on

none_distinct : IsDistinct bytes_eq []
unfolding IsDistinct
none_distinct = tt

pub legal_numbers : (ask : Ask) (files : Snapshot) (journal : List Change) (log : List Logged) → IsLegal ask files journal log → map (λ r. r.number) (revisions_of log) ≡ range_with_len 1 (length (revisions_of log))
legal_numbers ask files journal log h = numbers_from ask files journal unlogged log h

pub legal_counts : (ask : Ask) (files : Snapshot) (journal : List Change) (log : List Logged) → IsLegal ask files journal log → IsNonDecreasing (map count_of log)
legal_counts ask files journal log h = counts_from ask files journal unlogged log h

pub legal_within : (ask : Ask) (files : Snapshot) (journal : List Change) (log : List Logged) → IsLegal ask files journal log → All (λ build. count_of build ≤ length journal) log
legal_within ask files journal log h = within_from ask files journal unlogged log h

pub legal_only : (ask : Ask) (files : Snapshot) (journal : List Change) (log other : List Logged) → IsLegal ask files journal log → IsLegal ask files journal other → map count_of log ≡ map count_of other → log ≡ other
legal_only ask files journal log other h k e = same_log ask files journal unlogged log other h k e

pub legal_distinct : (ask : Ask) (files : Snapshot) (journal : List Change) (log : List Logged) → IsDistinct bytes_eq ask.entries → IsDistinct bytes_eq (reached_by ask files journal unlogged log).numbering
legal_distinct ask files journal log e = reached_distinct ask files journal unlogged log e none_distinct
