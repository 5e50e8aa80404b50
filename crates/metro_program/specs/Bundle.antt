-- What `bundle` writes, and how it ends.
use Rattle.mt_io.specs.Files.{Files}
use Rattle.mt_files.specs.Asks.{Ask}
use Rattle.mt_revision.specs.Revisions.{bundle_of}
use Rattle.metro_program.specs.First.{WritesFirst, first_plan}
use Rattle.metro_program.specs.Plans.{Plan}

-- the plan of a folder of these files: the bundle of the first build
abbrev pub bundle_plan : Ask → Files → Plan
bundle_plan ask tree = first_plan bundle_of ask tree

-- what the plan of a bundle says
abbrev pub Bundles : Ask → Files → Plan → Type 0
Bundles ask tree plan = WritesFirst bundle_of ask tree plan
