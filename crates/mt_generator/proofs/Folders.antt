-- The files of a folder are no longer than sources may be.
use Rattle.std.proofs.Common.{◌≡◌, ◌<◌, ◌≤◌, ◌^◌, true, false, sym, ◌∙◌, Bool, cond, ℕ, zero, suc, List, length, Option, Some, arith}
use Rattle.std.specs.Ordering.{nat_cmp, eq_by_cmp}
use Rattle.std.specs.Cmp.Lexicographic.{slice_cmp, nat_list_cmp_total}
use Rattle.std.specs.FinMap.{empty, get, get-empty, get-insert, insert}
use Rattle.mt_io.specs.Files.{Files}
use Rattle.mt_tokens.specs.Sources.{max_source_bytes}
use Rattle.mt_generator.specs.Growths.{AreSources, files_grown, first_files}
use Rattle.mt_generator.specs.Modules.{module_drawn, module_path}
use Rattle.mt_generator.proofs.Sizes.{module_short}

none_are : AreSources empty
none_are = record { small = λ path text h. grind (arith, get-empty) }

chosen_small : (b : Bool) (own : List ℕ) (other : Option (List ℕ)) (text : List ℕ)
    → length own ≤ max_source_bytes → (other ≡ Some text → length text ≤ max_source_bytes) → cond b (Some own) other ≡ Some text → length text ≤ max_source_bytes
chosen_small true own other text short rest h = grind arith
chosen_small false own other text short rest h = rest h

insert_are : (files : Files) (path text : List ℕ) → AreSources files → length text ≤ max_source_bytes → AreSources (insert files path text)
insert_are files path text are short = record {
  small = λ at found h. chosen_small (eq_by_cmp (slice_cmp nat_cmp) at path) text (get files at) found short (are.small at found) (sym (get-insert nat_list_cmp_total files path text at) ∙ h);
}

first_are : (state modules n : ℕ) → n ≤ modules → modules < 2 ^ 32 → AreSources (first_files state modules n).0
first_are state modules zero few small = none_are
first_are state modules (suc n) few small =
    let before = first_files state modules n in
    let short = module_short before.1 modules n true (omega arith) small in
    insert_are before.0 (module_path n) (module_drawn before.1 modules n true).0 (first_are state modules n (omega arith) small) (omega (arith, short))

-- the files of a folder are no longer than sources may be
pub files_are : (state modules : ℕ) → modules < 2 ^ 32 → AreSources (files_grown state modules).0
files_are state modules small = first_are state modules modules (omega arith) small
