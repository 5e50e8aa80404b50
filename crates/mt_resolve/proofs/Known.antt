-- Answers that are kept.
use Rattle.std.proofs.Common.{◌≡◌, ◌∙◌, ℕ, List, [], ◌∷◌, ◌++◌, Option, Some, None, ap, sym, subst}
use Rattle.std.specs.Prelude.{IfSome, option_and_then}
use Rattle.std.specs.Ordering.{nat_cmp}
use Rattle.std.specs.Cmp.Lexicographic.{slice_cmp}
use Rattle.std.specs.FinMap.{FinMap, empty, get, get-empty, insert, remove}
use Rattle.std.specs.List.{AllByRecursion}
use Rattle.mt_package.specs.declared.options.Options.{Options}
use Rattle.mt_files.specs.Snapshots.{Snapshot}
use Rattle.mt_files.specs.Resolve.{resolved_in}
use Rattle.mt_files.specs.declared.target.Target.{Target}
use Rattle.mt_resolve.specs.Known.{AreKnown, AreKnownFrom, Known, known_at}
use Rattle.mt_resolve.proofs.Answered.{all_less, all_none, all_put, get_put}

abbrev pub Names : Type 0
Names = FinMap (slice_cmp nat_cmp) Target

pub none_known : (options : Options) (files : Snapshot) (known : Known) → known ≡ empty → AreKnown options files known
none_known options files known e = all_none (AreKnownFrom options files) known e

pub known_less : (options : Options) (files : Snapshot) (known less : Known) (folder : List ℕ) → less ≡ remove known folder → AreKnown options files known → AreKnown options files less
known_less options files known less folder e k = subst (AreKnown options files) (sym e) (all_less (AreKnownFrom options files) known folder k)

pub known_names : (options : Options) (files : Snapshot) (known : Known) (folder : List ℕ) (names : Names) → Some names ≡ get known folder → AreKnown options files known → AreKnownFrom options files folder names
known_names options files known folder names e k = subst (λ o. IfSome o (AreKnownFrom options files folder)) (sym e) (k folder)

pub no_names : (options : Options) (files : Snapshot) (folder : List ℕ) (names : Names) → names ≡ empty → AreKnownFrom options files folder names
no_names options files folder names e = all_none (λ name target. resolved_in options files folder name ≡ target) names e

-- with one name more from a folder
pub known_more :
    (options : Options) (files : Snapshot) (known more : Known) (names added : Names) (folder name : List ℕ) (target : Target) → added ≡ insert names name target → more ≡ insert known folder added
    → AreKnown options files known → AreKnownFrom options files folder names → resolved_in options files folder name ≡ target → AreKnown options files more
known_more options files known more names added folder name target a m k ns t =
    subst (AreKnown options files) (sym m)
    (all_put (AreKnownFrom options files) known folder added
    (subst (AreKnownFrom options files folder) (sym a) (all_put (λ n u. resolved_in options files folder n ≡ u) names name target t ns)) k)

pub known_there : (known more : Known) (names added : Names) (folder name : List ℕ) (target : Target) → added ≡ insert names name target → more ≡ insert known folder added → known_at more folder name ≡ Some target
known_there known more names added folder name target a m =
    ap (λ k. known_at k folder name) m ∙ ap (λ o. option_and_then (λ ns. get ns name) o) (get_put known folder added) ∙ ap (λ ns. get ns name) a ∙ get_put names name target

known_by :
    (options : Options) (files : Snapshot) (folder name : List ℕ) (o : Option Names) (target : Target) → IfSome o (AreKnownFrom options files folder) → Some target ≡ option_and_then (λ names. get names name) o → resolved_in options files folder name ≡ target
known_by options files folder name None target k e = absurd (cc)
known_by options files folder name (Some names) target k e = at (get names name) (k name) e
  where
    at : (o : Option Target) → IfSome o (λ t. resolved_in options files folder name ≡ t) → Some target ≡ o → resolved_in options files folder name ≡ target
    at None h e = absurd (cc)
    at (Some t) h e = h ∙ (cc)

-- what is known is so
pub known_is : (options : Options) (files : Snapshot) (known : Known) (folder name : List ℕ) (target : Target) → AreKnown options files known → Some target ≡ known_at known folder name → resolved_in options files folder name ≡ target
known_is options files known folder name target k e = known_by options files folder name (get known folder) target (k folder) e

-- of none nothing is known
pub nothing_known : (known : Known) (folder name : List ℕ) → known ≡ empty → known_at known folder name ≡ None
nothing_known known folder name e = ap (λ k. option_and_then (λ names. get names name) (get k folder)) e ∙ ap (λ o. option_and_then (λ names. get names name) o) (get-empty (slice_cmp nat_cmp) folder)

pub push_all : {X : Type 0} (P : X → Type 0) (xs : List X) (x : X) → AllByRecursion P xs → P x → AllByRecursion P (xs ++ x ∷ [])
push_all P [] x h k = (k, tt)
push_all P (y ∷ ys) x h k = (h.0, push_all P ys x h.1 k)
