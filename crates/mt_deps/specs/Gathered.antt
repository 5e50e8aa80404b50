-- What is found so far.
use Rattle.std.specs.Prelude.{ℕ, ◌+◌, false, ◌||◌, List, [], ◌++◌, Option, Some, None, option_to_list, if◌then◌else◌}
use Rattle.mt_tokens.specs.Deps.{Deps, dependency_of, edit_of, is_dynamic, is_export, marks_at}
use Rattle.mt_tokens.specs.declared.forms.Found.{Found}
use Rattle.mt_deps.specs.Numbers.{added}
use Rattle.mt_deps.specs.declared.gathering.Gathering.{Gathering}

-- without the table of numbers
abbrev pub kept : Gathering → Deps
kept g = record { deps = g.deps; uses = g.uses; marks = g.marks; exporting = g.exporting; dynamic = g.dynamic }

abbrev pub nothing : Deps
nothing = record { deps = []; uses = []; marks = []; exporting = false; dynamic = 0 }

-- what is found at one word more
abbrev pub with_found : List ℕ → Deps → Found → Deps
with_found text d f = record {
  deps = added d.deps (dependency_of f);
  uses = d.uses ++ option_to_list (edit_of text (added d.deps (dependency_of f)) f);
  marks = d.marks ++ marks_at text f;
  exporting = d.exporting || is_export f;
  dynamic = d.dynamic + (if is_dynamic f then 1 else 0);
}

-- and what is found at a token, if something is
abbrev pub with_option : List ℕ → Deps → Option Found → Deps
with_option text d None = d
with_option text d (Some f) = with_found text d f
