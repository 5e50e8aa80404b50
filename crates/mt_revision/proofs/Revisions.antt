-- The revision that comes after another one is the one that was made after it and has the content.
use Rattle.std.proofs.Common.{◌≡◌, ◌∙◌, ℕ, true, List, [], Option, Some, None, refl, ap, sym}
use Rattle.std.specs.List.{list_all}
use Rattle.std.specs.Option.{IfSome}
use Rattle.mt_files.specs.Asks.{Ask}
use Rattle.mt_files.specs.Snapshots.{Snapshot}
use Rattle.mt_files.specs.Fresh.{all_faults}
use Rattle.mt_files.specs.Reach.{reach}
use Rattle.mt_revision.specs.Numberings.{has_path}
use Rattle.mt_revision.specs.Held.{touched_between}
use Rattle.mt_revision.specs.Texts.{texts_of}
use Rattle.mt_revision.specs.Revisions.{WasMadeAfter, held_before, next_number}
use Rattle.mt_revision.specs.Contents.{HasContent, modules_at, numbers_of, revision_after}
use Rattle.mt_revision.specs.declared.revision.Revision.{Revision}

pub after_content : (ask : Ask) (before : Option Revision) (changes : ℕ) (numbering : List (List ℕ)) (files : Snapshot) → all_faults ask files ≡ [] → list_all (has_path numbering) (reach ask files) ≡ true
    → HasContent ask (revision_after ask before changes numbering files) numbering files
after_content ask before changes numbering files h k = record { faultless = h; numbered = k; modules = refl; entries = refl; dev = refl }

same_dev : (before : Option Revision) (r : Revision) (dev : _) → r.dev ≡ dev → IfSome before (λ b. b.dev ≡ dev) → IfSome before (λ b. r.dev ≡ b.dev)
same_dev None r dev e h = tt
same_dev (Some b) r dev e h = e ∙ sym h

pub after_made : (ask : Ask) (before : Option Revision) (changes : ℕ) (numbering : List (List ℕ)) (files : Snapshot) → IfSome before (λ b. b.dev ≡ ask.options.dev)
    → WasMadeAfter before (revision_after ask before changes numbering files)
after_made ask before changes numbering files h = record { number = refl; dev = same_dev before (revision_after ask before changes numbering files) ask.options.dev refl h; touched = refl }

-- no other revision is
pub after_only : (ask : Ask) (before : Option Revision) (r : Revision) (numbering : List (List ℕ)) (files : Snapshot) → HasContent ask r numbering files → WasMadeAfter before r → r ≡ revision_after ask before r.changes numbering files
after_only ask before r numbering files content made =
    let touched : r.touched ≡ touched_between (held_before before) (texts_of ask.options.dev (modules_at ask numbering files)) =
    made.touched ∙ ap (λ d. touched_between (held_before before) (texts_of d r.modules)) content.dev ∙ ap (λ m. touched_between (held_before before) (texts_of ask.options.dev m)) content.modules in
    let number : r.number ≡ next_number before = made.number in
    let dev : r.dev ≡ ask.options.dev = content.dev in
    let entries : r.entries ≡ numbers_of numbering ask.entries = content.entries in
    let modules : r.modules ≡ modules_at ask numbering files = content.modules in
    λ i. record { number = number i; changes = r.changes; dev = dev i; entries = entries i; modules = modules i; touched = touched i }
