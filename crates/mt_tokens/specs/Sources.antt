-- How large a source may be.
use Rattle.std.specs.Prelude.{ℕ}
use Rattle.mt_tokens.specs.Tokens.{max_text_bytes}

-- the most bytes of a source: as many as a text may have that tokens are made of
abbrev pub max_source_bytes : ℕ
max_source_bytes = max_text_bytes
