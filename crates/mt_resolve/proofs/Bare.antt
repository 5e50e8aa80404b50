-- Names that are kept beside modules.
use Rattle.std.proofs.Common.{◌≡◌, ◌∙◌, ◌==◌, ◌&&◌, ◌||◌, not, ℕ, Bool, true, false, cond, List, [], ◌∷◌, Option, Some, None, is_some, refl, ap, sym}
use Rattle.std.specs.List.{filter_map, flat_map}
use Rattle.std.specs.Option.{unwrap_or}
use Rattle.std.specs.Prelude.{option_to_list}
use Rattle.mt_path.specs.Segments.{slash}
use Rattle.mt_path.specs.Parse.{IsPath}
use Rattle.mt_path.specs.Join.{joined}
use Rattle.mt_path.specs.Names.{folder_of, is_root}
use Rattle.mt_package.specs.declared.options.Options.{Options}
use Rattle.mt_files.specs.Snapshots.{Snapshot}
use Rattle.mt_files.specs.Resolve.{candidates, first_stop, holders, is_relative, kept_in, path_for, resolved_in}
use Rattle.mt_files.specs.declared.target.Target.{Target}
use Rattle.mt_files.specs.declared.target.Target.TheVariants as target
use Rattle.mt_resolve.specs.Searches.{Ends, held_by, held_from, is_bare}
use Rattle.mt_resolve.specs.declared.probes.Log.{Log}
use Rattle.mt_resolve.proofs.Holders.{held_at_root, held_up}
use Rattle.mt_resolve.proofs.Searches.{ends_at, ends_stop, stop_after}

neither : (x y : Bool) (p q r : List (List ℕ)) → not x && not y ≡ true → cond x p (cond y q r) ≡ r
neither true y p q r h = absurd (cc)
neither false true p q r h = absurd (cc)
neither false false p q r h = refl

pub bare_candidates : (options : Options) (files : Snapshot) (name folder : List ℕ) → is_bare name ≡ true → candidates options files folder name ≡ held_from options files name folder
bare_candidates options files [] folder h = absurd (cc)
bare_candidates options files (b ∷ bs) folder h =
    ap (flat_map (path_for options files (b ∷ bs)))
    (neither (b == slash) (is_relative (b ∷ bs)) (option_to_list (joined (slash ∷ []) (b ∷ bs))) (option_to_list (joined folder (b ∷ bs))) (filter_map (kept_in (b ∷ bs)) (holders folder)) h)

pub bare_resolved : (options : Options) (files : Snapshot) (name folder : List ℕ) → is_bare name ≡ true → resolved_in options files folder name ≡ unwrap_or (first_stop files (held_from options files name folder)) target.None
bare_resolved options files name folder h = ap (λ cs. unwrap_or (first_stop files cs) target.None) (bare_candidates options files name folder h)

-- with nothing there the name leads where it leads from the folder above
pub bare_on :
    (options : Options) (files : Snapshot) (name folder : List ℕ) → is_bare name ≡ true → IsPath folder → is_root folder ≡ false → None ≡ first_stop files (held_by options files name folder)
    → resolved_in options files folder name ≡ resolved_in options files (folder_of folder) name
bare_on options files name folder h p r n =
    bare_resolved options files name folder h ∙ ap (λ cs. unwrap_or (first_stop files cs) target.None) (held_up options files name folder p r)
    ∙ ap (λ o. unwrap_or o target.None) (sym (stop_after files (held_by options files name folder) (held_from options files name (folder_of folder)) n).0)
    ∙ sym (bare_resolved options files name (folder_of folder) h)

-- a search that ends at a folder
pub ends_here :
    (endings : List (List ℕ)) (options : Options) (files : Snapshot) (name folder : List ℕ) (before after : Log) (found : Option Target) (r : Bool) → is_root folder ≡ r → IsPath folder → (is_some found || r) ≡ true
    → Ends endings files before after found (held_by options files name folder) → Ends endings files before after found (held_from options files name folder)
ends_here endings options files name folder before after found true r p h e = ends_at endings files before after found _ _ (sym (held_at_root options files name folder r)) e
ends_here endings options files name folder before after (Some t) false r p h e =
    ends_at endings files before after (Some t) _ _ (sym (held_up options files name folder p r)) (ends_stop endings files before after t (held_by options files name folder) (held_from options files name (folder_of folder)) e)
ends_here endings options files name folder before after None false r p h e = absurd (cc)

pub goes_on : (found : Option Target) (r : Bool) → (is_some found || r) ≡ false → (found ≡ None) × (r ≡ false)
goes_on (Some t) r h = absurd (cc)
goes_on None true h = absurd (cc)
goes_on None false h = (refl, refl)
