-- The lines that tell of a graph, and of the faults in its place.
use Rattle.std.specs.Prelude.{ℕ, List, ◌++◌, length, codes}
use Rattle.std.specs.Fmt.{decimal}
use Rattle.std.specs.FinMap.{entries}
use Rattle.std.specs.List.{flat_map}
use Rattle.mt_files.specs.declared.build_fault.BuildFault.{BuildFault}
use Rattle.mt_files.specs.FaultText.{text_of}
use Rattle.mt_write.specs.Modules.{slot_text}
use Rattle.mt_write.specs.declared.slot.Slot.{Slot}
use Rattle.mt_revision.specs.declared.modules.Module.{Module}
use Rattle.mt_revision.specs.declared.revision.Revision.{Revision}

-- ---- a graph

-- where a name leads, after a blank
abbrev pub target_text : Slot → List ℕ
target_text slot = codes " " ++ slot_text slot

-- a line of a graph: a number, how many calls name what only a run can tell, how many names there are, where each of them leads, and a path
abbrev pub graph_line : ℕ → ℕ → List Slot → List ℕ → List ℕ
graph_line number calls slots path =
    decimal number ++ (codes " " ++ (decimal calls ++ (codes " " ++ (decimal (length slots) ++ (flat_map target_text slots ++ (codes " " ++ (path ++ codes "\n")))))))

-- the line of a module with a number
abbrev pub module_line : ℕ → Module → List ℕ
module_line number m = graph_line number m.output.dynamic m.slots m.path

-- the lines of a revision's modules, by ascending number
abbrev pub graph_lines : Revision → List ℕ
graph_lines revision = flat_map (λ e. module_line e.0 e.1) (entries revision.modules)

-- ---- faults

-- the line of a fault
abbrev pub fault_line : BuildFault → List ℕ
fault_line fault = text_of fault ++ codes "\n"

-- the lines of faults, in their order
abbrev pub fault_lines : List BuildFault → List ℕ
fault_lines faults = flat_map fault_line faults

-- the line of a graph without a fault: how many modules it has, and how many of their calls name what only a run can tell
abbrev pub ok_line : ℕ → ℕ → List ℕ
ok_line modules calls = codes "ok " ++ (decimal modules ++ (codes " " ++ (decimal calls ++ codes "\n")))
