-- The commands of a script and their one spelling.
use Rattle.std.specs.Prelude.{ℕ, ◌≤◌, ◌≡◌, true, false, List, [], ◌∷◌, ◌++◌, length, codes}
use Rattle.std.specs.List.{flat_map}
use Rattle.std.specs.Fmt.{decimal}
use Rattle.std.specs.Str.{is_utf8}
use Rattle.mt_path.specs.Names.{is_root}
use Rattle.mt_path.specs.Parse.{IsPath}
use Rattle.mt_tokens.specs.Sources.{max_source_bytes}
use Rattle.mt_script.specs.declared.command.Command.{Command}
use Rattle.mt_script.specs.declared.command.Command.TheVariants.{Put, Del, Rescan, Build, End}

-- the byte that ends a line
abbrev pub line_feed : ℕ
line_feed = 10

-- the byte before the length of a `put`
abbrev pub blank : ℕ
blank = 32

-- the line of a `put` of so many bytes
abbrev pub put_line : List ℕ → ℕ → List ℕ
put_line path size = codes "put " ++ (path ++ blank ∷ decimal size)

-- the line of a command, without its line feed
abbrev pub line_text : Command → List ℕ
line_text (Put path bytes) = put_line path (length bytes)
line_text (Del path) = codes "del " ++ path
line_text Rescan = codes "rescan"
line_text Build = codes "build"
line_text End = codes "end"

-- what follows the line of a command: the bytes of a `put` and a line feed
abbrev pub after_line : Command → List ℕ
after_line (Put path bytes) = bytes ++ line_feed ∷ []
after_line command = []

-- the one spelling of a command
abbrev pub command_text : Command → List ℕ
command_text command = line_text command ++ line_feed ∷ after_line command

-- the spelling of commands, one after another
abbrev pub script_text : List Command → List ℕ
script_text commands = flat_map command_text commands

-- a command that can be spelled: its path isn't the root, and it has no more bytes than a source
abbrev pub IsWritable : Command → Type 0
IsWritable (Put path bytes) = (is_root path ≡ false) × (length bytes ≤ max_source_bytes)
IsWritable (Del path) = is_root path ≡ false
IsWritable command = Unit {0}

-- the text of a path
pub record IsPathText (text : List ℕ) : Type 0 where
  pub path : IsPath text
  pub utf8 : is_utf8 text ≡ true

-- the path of a command is the text of one
abbrev pub NamesPath : Command → Type 0
NamesPath (Put path bytes) = IsPathText path
NamesPath (Del path) = IsPathText path
NamesPath command = Unit {0}

-- a command of a script: it names a path other than the root, and has no more bytes than a source
pub record IsCommand (command : Command) : Type 0 where
  pub path : NamesPath command
  pub writable : IsWritable command

-- a command after which a script goes on
abbrev pub GoesOn : Command → Type 0
GoesOn End = ⊥
GoesOn command = Unit {0}
