-- What the code reads, as the definitions have it.
use Rattle.std.specs.Prelude.{List}
use Rattle.mt_tokens.specs.Forms.{Items, Read}
use Rattle.mt_tokens.specs.Sites.{Site}
use Rattle.mt_tokens.specs.Words.{seen}
use Rattle.mt_tokens.specs.declared.forms.Bound.{Bound}
use Rattle.mt_tokens.specs.declared.token.Token.{Token}
use Rattle.mt_deps.specs.declared.lists.BoundRead.{BoundRead}
use Rattle.mt_deps.specs.declared.lists.ItemsRead.{ItemsRead}
use Rattle.mt_deps.specs.declared.seen.SeenTokens.{SeenTokens}
use Rattle.mt_deps.specs.declared.sites.Site as code

-- the tokens that are neither blanks nor comments
abbrev pub seen_of : SeenTokens → List Token
seen_of s = seen s.tokens.now

-- a token where it stands
abbrev pub seen_site : code.Site → Site
seen_site s = record { before = s.before; depth = s.depth; here = s.here; after = seen_of s.after }

-- a list in braces
abbrev pub seen_items : ItemsRead → Items
seen_items l = record { items = l.items; close = l.close; rest = seen_of l.rest }

-- what a statement takes of a module
abbrev pub seen_bound : BoundRead → Read Bound
seen_bound b = record { found = b.bound; rest = seen_of b.rest }
