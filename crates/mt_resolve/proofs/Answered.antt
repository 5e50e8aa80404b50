-- What is kept of package files.
use Rattle.std.proofs.Common.{◌≡◌, ◌∙◌, ℕ, Bool, true, false, cond, List, Option, Some, None, refl, ap, sym, subst}
use Rattle.std.specs.Prelude.{IfSome}
use Rattle.std.specs.Option.{option_map}
use Rattle.std.specs.Ordering.{nat_cmp, eq_by_cmp}
use Rattle.std.specs.Cmp.Lexicographic.{slice_cmp, nat_list_cmp_total}
use Rattle.std.specs.FinMap.{FinMap, empty, get, get-empty, get-insert, get-remove, insert, remove}
use Rattle.std.proofs.lemmas.Bool.{cond-true}
use Rattle.mt_containers.proofs.Members.{tie_decides}
use Rattle.mt_containers.proofs.Seens.{texts_antisymmetric}
use Rattle.mt_package.specs.Packages.{entry_of, package_of}
use Rattle.mt_package.specs.declared.options.Options.{Options}
use Rattle.mt_files.specs.Snapshots.{Snapshot, source_at}
use Rattle.mt_resolve.specs.Searches.{AreRead, answer_at, answer_of}
use Rattle.mt_resolve.specs.declared.packages.PackageAnswer.{PackageAnswer}

pub none_read : (options : Options) (files : Snapshot) → AreRead options files empty
none_read options files file = nothing (get empty file) (get-empty (slice_cmp nat_cmp) file)
  where
    nothing : (o : Option PackageAnswer) → o ≡ None → IfSome o (λ answer. answer_at options files file ≡ Some answer)
    nothing None h = tt
    nothing (Some x) h = absurd (cc)

same_tie : (p : List ℕ) → eq_by_cmp (slice_cmp nat_cmp) p p ≡ true
same_tie p = (tie_decides nat_list_cmp_total texts_antisymmetric p p).1 refl

module _ {X : Type 0} where
  -- what was put under a key
  pub get_put : (m : FinMap (slice_cmp nat_cmp) X) (p : List ℕ) (x : X) → get (insert m p x) p ≡ Some x
  get_put m p x = get-insert nat_list_cmp_total m p x p ∙ cond-true (eq_by_cmp (slice_cmp nat_cmp) p p) (Some x) (get m p) (same_tie p)

  put_by : (P : X → Type 0) (b : Bool) (x : X) (o : Option X) → (b ≡ true → P x) → IfSome o P → IfSome (cond b (Some x) o) P
  put_by P true x o h k = h refl
  put_by P false x o h k = k

  -- what holds of each value holds with one more
  pub all_put : (P : List ℕ → X → Type 0) (m : FinMap (slice_cmp nat_cmp) X) (p : List ℕ) (x : X) → P p x → ((q : List ℕ) → IfSome (get m q) (P q)) → (q : List ℕ) → IfSome (get (insert m p x) q) (P q)
  all_put P m p x h k q =
      subst (λ o. IfSome o (P q)) (sym (get-insert nat_list_cmp_total m p x q))
      (put_by (P q) (eq_by_cmp (slice_cmp nat_cmp) q p) x (get m q) (λ e. subst (λ r. P r x) (sym ((tie_decides nat_list_cmp_total texts_antisymmetric q p).0 e)) h) (k q))

  less_by : (P : X → Type 0) (b : Bool) (o : Option X) → IfSome o P → IfSome (cond b None o) P
  less_by P true o k = tt
  less_by P false o k = k

  -- and with one less
  pub all_less : (P : List ℕ → X → Type 0) (m : FinMap (slice_cmp nat_cmp) X) (p : List ℕ) → ((q : List ℕ) → IfSome (get m q) (P q)) → (q : List ℕ) → IfSome (get (remove m p) q) (P q)
  all_less P m p k q = subst (λ o. IfSome o (P q)) (sym (get-remove nat_list_cmp_total m p q)) (less_by (P q) (eq_by_cmp (slice_cmp nat_cmp) q p) (get m q) (k q))

  -- it holds of none
  pub all_none : (P : List ℕ → X → Type 0) (m : FinMap (slice_cmp nat_cmp) X) → m ≡ empty → (q : List ℕ) → IfSome (get m q) (P q)
  all_none P m e q = nothing (get m q) (ap (λ n. get n q) e ∙ get-empty (slice_cmp nat_cmp) q)
    where
      nothing : (o : Option X) → o ≡ None → IfSome o (P q)
      nothing None h = tt
      nothing (Some x) h = absurd (cc)

-- what is kept of a package file of these bytes
pub answer_there : (options : Options) (files : Snapshot) (file bytes : List ℕ) (answer : PackageAnswer) → Some bytes ≡ source_at files file → answer ≡ answer_of (entry_of options.main_fields) (package_of bytes) → answer_at options files file ≡ Some answer
answer_there options files file bytes answer e a = ap (λ s. option_map (answer_of (entry_of options.main_fields)) (option_map package_of s)) (sym e) ∙ ap (λ x. Some x) (sym a)
