-- What the plan of a graph says.
use Rattle.std.proofs.Common.{◌≡◌, ◌∙◌, ℕ, List, [], ◌∷◌, ◌++◌, map, Option, Some, None, Result, Ok, Err, refl, ap, subst}
use Rattle.std.specs.List.{IsDistinct, cons_option, filter_map, flat_map}
use Rattle.std.specs.Option.{option_and_then, option_map, option_map_or}
use Rattle.std.specs.Result.{result_ok}
use Rattle.std.specs.Str.{bytes_eq}
use Rattle.mt_io.specs.Files.{Files}
use Rattle.mt_tokens.specs.Deps.{Dependency}
use Rattle.mt_tokens.specs.Transform.{Transformed, dependencies_of, transformed}
use Rattle.mt_tokens.specs.declared.source.SourceFault.{SourceFault}
use Rattle.mt_package.specs.declared.options.Options.{Options}
use Rattle.mt_files.specs.Asks.{Ask}
use Rattle.mt_files.specs.Edges.{fault_of, faults_at, kind_of, made_faults, target_of, unresolved}
use Rattle.mt_files.specs.Reach.{reach}
use Rattle.mt_files.specs.Resolve.{file_of}
use Rattle.mt_files.specs.Snapshots.{Snapshot, source_at}
use Rattle.mt_files.specs.declared.build_fault.BuildFault.TheVariants.{EntryMissing}
use Rattle.mt_files.specs.declared.target.Target.{Target}
use Rattle.mt_files.specs.declared.target.Target.TheVariants as target
use Rattle.mt_files.proofs.PathLists.{Has, has_filter, has_head, has_tail}
use Rattle.mt_transform.specs.Outputs.{output_made, output_of}
use Rattle.mt_write.specs.declared.slot.Slot.{Slot}
use Rattle.mt_write.specs.declared.slot.Slot.TheVariants.{Module as Numbered}
use Rattle.mt_revision.specs.Contents.{HasContent, by_number, slot_of}
use Rattle.mt_revision.specs.Numberings.{has_path, number_in}
use Rattle.mt_revision.specs.declared.modules.Module.{Module}
use Rattle.mt_revision.specs.declared.revision.Revision.{Revision}
use Rattle.mt_revision.proofs.Bundles.{content_listed}
use Rattle.mt_revision.proofs.Contents.{modules_of}
use Rattle.mt_revision.proofs.Faultless.{no_fault_at, none_both}
use Rattle.mt_fresh.specs.Calls.{calls_of}
use Rattle.mt_report.specs.Listings.{graph_line, graph_lines, module_line}
use Rattle.metro_program.specs.Deps.{IsGraph, PrintsGraph, deps_plan, line_at, lines_at, numbered}
use Rattle.metro_program.specs.First.{IsTextOf, first_numbering}
use Rattle.mt_request.specs.Asks.{AreEntries}
use Rattle.metro_program.proofs.First.{first_distinct, writes_first}

module _ (options : Options) (numbering : List (List ℕ)) (files : Snapshot) where
  -- ---- the slots of a module without a fault

  slot_by : (p : List ℕ) (d : Dependency) (t : Target) (rest : List Target) → fault_of p d t ≡ []
      → map (slot_of numbering) rest ≡ map (numbered numbering) (filter_map file_of rest) → map (slot_of numbering) (t ∷ rest) ≡ map (numbered numbering) (filter_map file_of (t ∷ rest))
  slot_by p d (target.File path) rest h k = ap (λ (z : List Slot). Numbered (number_in numbering path) ∷ z) k
  slot_by p d target.None rest h k = absurd (cc)
  slot_by p d (target.BadPackage path) rest h k = absurd (cc)

  -- each name leads to a module
  slots_along : (p : List ℕ) (ds : List Dependency) → flat_map (unresolved options files p) ds ≡ [] → map (slot_of numbering) (map (target_of options files p) ds) ≡ map (numbered numbering) (filter_map file_of (map (target_of options files p) ds))
  slots_along p [] h = refl
  slots_along p (d ∷ ds) h =
      let both = none_both (unresolved options files p d) (flat_map (unresolved options files p) ds) h in
      slot_by p d (target_of options files p d) (map (target_of options files p) ds) both.0 (slots_along p ds both.1)

  -- ---- the line of a module without a fault

  -- the targets of what became of a source
  abbrev targets_by : List ℕ → Option (List ℕ) → List Target
  targets_by p s = map (target_of options files p) (option_map_or dependencies_of (option_map (transformed options.strip (kind_of p)) s) [])

  -- the module of what became of a source
  abbrev module_by : List ℕ → Option (List ℕ) → Option Module
  module_by p s = option_map (λ output. record { path = p; output = output; slots = map (slot_of numbering) (targets_by p s) }) (option_and_then result_ok (option_map (output_of options.strip (kind_of p)) s))

  abbrev lines : List (ℕ × Module) → List ℕ
  lines es = flat_map (λ e. module_line e.0 e.1) es

  line_made : (p source : List ℕ) (r : Result Transformed SourceFault) (rest : List (ℕ × Module)) → made_faults options files p r ≡ []
      → lines (cons_option (option_map (λ (m : Module). (number_in numbering p, m)) (option_map (λ output. record { path = p; output = output; slots = map (slot_of numbering) (map (target_of options files p) (dependencies_of r)) }) (result_ok (output_made options.strip (kind_of p) source r)))) rest)
      ≡ graph_line (number_in numbering p) (calls_of r) (map (numbered numbering) (filter_map file_of (map (target_of options files p) (dependencies_of r)))) p ++ lines rest
  line_made p source (Ok t) rest h = ap (λ slots. graph_line (number_in numbering p) t.dynamic slots p ++ lines rest) (slots_along p t.dependencies h)
  line_made p source (Err f) rest h = absurd (cc)

  line_by : (p : List ℕ) (s : Option (List ℕ)) (rest : List (ℕ × Module)) → option_map_or (made_faults options files p) (option_map (transformed options.strip (kind_of p)) s) (EntryMissing p ∷ []) ≡ []
      → lines (cons_option (option_map (λ (m : Module). (number_in numbering p, m)) (module_by p s)) rest)
      ≡ graph_line (number_in numbering p) (option_map_or calls_of (option_map (transformed options.strip (kind_of p)) s) 0) (map (numbered numbering) (filter_map file_of (targets_by p s))) p ++ lines rest
  line_by p None rest h = absurd (cc)
  line_by p (Some source) rest h = line_made p source (transformed options.strip (kind_of p) source) rest h

  -- the lines of modules without a fault
  lines_along : (ps : List (List ℕ)) → ((p : List ℕ) → Has ps p → faults_at options files p ≡ []) → lines (modules_of options numbering files ps) ≡ flat_map (line_at options numbering files) ps
  lines_along [] h = refl
  lines_along (p ∷ ps) h =
      line_by p (source_at files p) (modules_of options numbering files ps) (h p (has_head p ps))
      ∙ ap (λ z. line_at options numbering files p ++ z) (lines_along ps (λ q k. h q (has_tail p q ps k)))

-- the lines of a revision are those of the files that it has
content_lines : (ask : Ask) (r : Revision) (numbering : List (List ℕ)) (files : Snapshot) → HasContent ask r numbering files → IsDistinct bytes_eq numbering → graph_lines r ≡ lines_at ask numbering files
content_lines ask r numbering files content distinct =
    ap (flat_map (λ e. module_line e.0 e.1)) (content_listed ask r numbering files content distinct)
    ∙ lines_along ask.options numbering files (by_number ask numbering files) (λ p h. no_fault_at ask files p content.faultless (has_filter (has_path (reach ask files)) numbering p h).1)

module _ (ask : Ask) (tree : Files) (are : AreEntries ask.entries) where
  -- the lines of a first build are those of the files
  graph_of : (bytes : List ℕ) → IsTextOf graph_lines ask tree bytes → IsGraph ask tree bytes
  graph_of bytes h = record {
    files = h.files;
    taken = h.taken;
    faultless = h.faultless;
    lines = h.text_is ∙ content_lines ask h.build.revision (first_numbering ask h.files) h.files (subst (λ ns. HasContent ask h.build.revision ns h.files) h.numbering h.content) (first_distinct graph_lines ask tree are h.files);
  }

  -- what the plan of a graph says
  pub prints_graph : PrintsGraph ask tree (deps_plan ask tree)
  prints_graph = let first = writes_first graph_lines ask tree are in record { first = first; graph = λ zero. graph_of (deps_plan ask tree).bytes (first.written zero) }
