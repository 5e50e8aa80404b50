-- What a resolver knows.
use Rattle.mt_package.specs.declared.options.Options.{Options}
use Rattle.mt_files.specs.Snapshots.{Snapshot}
use Rattle.mt_resolve.specs.Known.{AreKnown}
use Rattle.mt_resolve.specs.Searches.{AreRead}
use Rattle.mt_resolve.specs.declared.resolver.Resolver.{Resolver}

-- the options of a resolver
abbrev pub options_in : Resolver → Options
options_in r = r.place.options.now

-- the files that it looks at
abbrev pub files_in : Resolver → Snapshot
files_in r = r.place.files.now

-- what it keeps is so
pub record IsSound (r : Resolver) : Type 0 where
  pub read : AreRead (options_in r) (files_in r) r.notes.packages
  pub known : AreKnown (options_in r) (files_in r) r.answers
