-- What a source becomes, by its kind and its encoding.
use Rattle.std.proofs.Common.{◌≡◌, ℕ, List, Bool, true, false, cond, Ok, Err, refl, ap, subst, ◌∙◌}
use Rattle.std.specs.Str.{is_utf8, IsUtf8}
use Rattle.std.specs.Str.Lossy.{utf8_valid_len}
use Rattle.std.proofs.lemmas.Str.{IsUtf8-from_is_utf8}
use Rattle.mt_tokens.specs.Tokens.{tokens_of}
use Rattle.mt_tokens.specs.Transform.{is_json, json_of, read_script, transformed}
use Rattle.mt_tokens.specs.declared.source.SourceFault.TheVariants as fault
use Rattle.mt_tokens.specs.declared.source.PathKind.{PathKind}
use Rattle.mt_tokens.specs.declared.source.PathKind.TheVariants.{Script, Json}
use Rattle.mt_transform.specs.Readings.{made}
use Rattle.mt_transform.specs.declared.reading.Reading.{Reading}
use Rattle.mt_transform.specs.declared.reading.Reading.TheVariants as read_as

untrue : (b : Bool) → (b ≡ true → ⊥) → b ≡ false
untrue true h = absurd (h refl)
untrue false h = refl

-- what isn't UTF-8 fails the test
pub not_utf8 : (bs : List ℕ) → (IsUtf8 bs → ⊥) → is_utf8 bs ≡ false
not_utf8 bs h = untrue (is_utf8 bs) (λ e. h (IsUtf8-from_is_utf8 bs e))

pub transformed-script : (strip : Bool) (kind : PathKind) (source : List ℕ) → kind ≡ Script → is_utf8 source ≡ true → transformed strip kind source ≡ read_script strip source (tokens_of source)
unfolding transformed
transformed-script strip kind source k u = rw (k, u) refl

pub transformed-json : (strip : Bool) (kind : PathKind) (source : List ℕ) → kind ≡ Json → is_utf8 source ≡ true → transformed strip kind source ≡ cond (is_json source) (Ok (json_of source)) (Err fault.Json)
unfolding transformed
transformed-json strip kind source k u = rw (k, u) refl

-- a text that is read as JSON, and one that isn't
pub transformed-json_read : (strip : Bool) (kind : PathKind) (source text : List ℕ) (reading : Reading) → kind ≡ Json → text ≡ source → is_utf8 source ≡ true → reading ≡ read_as.Json → is_json text ≡ true → transformed strip kind source ≡ Ok (made strip source reading)
transformed-json_read strip kind source text reading k t u r h =
    let j = subst (λ s. is_json s ≡ true) t h in
    rw (r) (transformed-json strip kind source k u ∙ ap (λ b. cond b (Ok (json_of source)) (Err fault.Json)) j)

pub transformed-json_refused : (strip : Bool) (kind : PathKind) (source text : List ℕ) → kind ≡ Json → text ≡ source → is_utf8 source ≡ true → is_json text ≡ false → transformed strip kind source ≡ Err fault.Json
transformed-json_refused strip kind source text k t u h =
    let j = subst (λ s. is_json s ≡ false) t h in
    transformed-json strip kind source k u ∙ ap (λ b. cond b (Ok (json_of source)) (Err fault.Json)) j

pub transformed-not_utf8 : (strip : Bool) (kind : PathKind) (source : List ℕ) → is_utf8 source ≡ false → transformed strip kind source ≡ Err (fault.NotUtf8 (utf8_valid_len source))
unfolding transformed
transformed-not_utf8 strip kind source u = rw u refl
