-- What is a package file, by the test of UTF-8.
use Rattle.std.proofs.Common.{◌≡◌, ℕ, List, Err, refl}
use Rattle.std.proofs.lemmas.Bool.{false_from_ne_true}
use Rattle.std.proofs.lemmas.Str.{IsUtf8-from_is_utf8, is_utf8-from_IsUtf8}
use Rattle.std.specs.Prelude.{IsUtf8}
use Rattle.std.specs.Str.{is_utf8}
use Rattle.serde_json.specs.Read.{read}
use Rattle.mt_package.specs.Packages.{object_of, package_of}
use Rattle.mt_package.specs.declared.package.PackageFault.TheVariants.{NotJson}

pub of_text : (bytes text : List ℕ) → text ≡ bytes → IsUtf8 bytes → package_of bytes ≡ object_of (read text)
of_text bytes text e u = rw (e, is_utf8-from_IsUtf8 bytes u) refl

pub of_no_text : (bytes : List ℕ) → (IsUtf8 bytes → ⊥) → package_of bytes ≡ Err NotJson
of_no_text bytes h = rw (false_from_ne_true (is_utf8 bytes) (λ e. h (IsUtf8-from_is_utf8 bytes e))) refl
