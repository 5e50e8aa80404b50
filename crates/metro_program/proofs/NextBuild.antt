-- The next build is that of the fresh graph.
use Rattle.std.proofs.Common.{inl, inr, ◌⊎◌, ◌≡◌, ◌≤◌, ◌<◌, ◌+◌, ◌∙◌, ℕ, true, List, [], ◌∷◌, get_or, length, Option, Result, Ok, Err, refl, ap, sym, subst, arith}
use Rattle.std.specs.List.{All, list_all}
use Rattle.std.specs.FinMap.{keys, len}
use Rattle.std.proofs.lemmas.List.Elements.{All-from_get_or, Contains-get_or}
use Rattle.mt_package.specs.declared.options.Options.{Options}
use Rattle.mt_files.proofs.PathLists.{contains_has}
use Rattle.mt_files.specs.Fresh.{all_faults, decided}
use Rattle.mt_files.specs.Reach.{reach}
use Rattle.mt_files.specs.declared.build_fault.BuildFault.{BuildFault}
use Rattle.mt_files.specs.declared.build_fault.BuildFault.TheVariants.{NoMemory}
use Rattle.mt_graph.specs.Graphs.{GraphMap, fresh_graph, graph_of}
use Rattle.mt_graph.proofs.Graphs.{fresh_keys}
use Rattle.mt_fresh.specs.JudgedGraphs.{IsGraphOf}
use Rattle.mt_revision.proofs.Extensions.{extended_entry, extended_more}
use Rattle.mt_revision.specs.Contents.{numbers_of, revision_after}
use Rattle.mt_revision.specs.Numberings.{extended, has_path}
use Rattle.mt_revision.specs.Revisions.{WasMadeAfter, made_after}
use Rattle.mt_revision.specs.Texts.{Modules}
use Rattle.mt_revision.specs.declared.revision.Revision.{Revision}
use Rattle.metro_program.specs.declared.state.NextBuild.{NextBuild}
use Rattle.metro_program.specs.Builds.{IsNext, build_with, fresh_build, next_build, numbering_after}
use Rattle.mt_request.specs.Asks.{AreEntries}
use Rattle.metro_program.specs.States.{IsBounded, State}
use Rattle.metro_program.proofs.Bounded.{Known, all_numbered, few_known, few_numbered}
use Rattle.metro_program.proofs.GraphFiles.{numbered_distinct, numbered_file}

-- what a build answers
abbrev pub IsBuild : State → Result NextBuild BuildFault → Type 0
IsBuild s r = (r ≡ Err NoMemory) ⊎ (r ≡ fresh_build s)

-- what a graph answers
abbrev pub IsGraph : State → Result GraphMap BuildFault → Type 0
IsGraph s r = (r ≡ Err NoMemory) ⊎ (r ≡ fresh_graph s.ask s.files)

no_faults : (s : State) (graph : GraphMap) (faults : List BuildFault) → decided (graph_of s.ask.options s.files (reach s.ask s.files)) faults ≡ Ok graph → faults ≡ []
no_faults s graph [] h = refl
no_faults s graph (fault ∷ faults) h = absurd (cc)

first_fault : (s : State) (fault : BuildFault) (faults : List BuildFault) → Err fault ≡ decided (graph_of s.ask.options s.files (reach s.ask s.files)) faults → Err fault ≡ build_with s faults
first_fault s fault [] h = absurd (cc)
first_fault s fault (first ∷ faults) h = let k : fault ≡ first = cc in ap Err k

-- the build of a graph
pub graph_build : (s : State) (graph : GraphMap) (build : NextBuild) → IsGraph s (Ok graph) → (fresh_graph s.ask s.files ≡ Ok graph → build ≡ next_build s) → IsBuild s (Ok build)
graph_build s graph build (inl h) e = absurd (cc)
graph_build s graph build (inr h) e = inr (ap Ok (e (sym h)) ∙ ap (build_with s) (sym (no_faults s graph (all_faults s.ask s.files) (sym h))))

-- or its fault
pub graph_fault : (s : State) (fault : BuildFault) → IsGraph s (Err fault) → IsBuild s (Err fault)
graph_fault s fault (inl h) = inl (let k : fault ≡ NoMemory = cc in ap Err k)
graph_fault s fault (inr h) = inr (first_fault s fault (all_faults s.ask s.files) h)

-- ---- whoever found the modules

module _ (s : State) (b : IsBounded s) (graph : GraphMap) (is : IsGraphOf s.ask s.files graph) (few : length s.journal ≤ 65536) where
  -- there is room for the numbers
  pub few_paths : (entries : List (List ℕ)) → AreEntries s.ask.entries → entries ≡ s.ask.entries → length s.numbering + length entries + len graph < 4294967295
  few_paths entries are same =
      let numbered = few_numbered s b few in
      let size : len graph ≤ 65536 = is.few in
      let most = are.most in
      let same_length : length entries ≡ length s.ask.entries = ap length same in
      omega (arith, numbered, size, most, same_length)

  abbrev numbers : List (List ℕ)
  numbers = extended s.numbering s.ask.entries (keys graph)

  known_numbers : (path : List ℕ) → has_path numbers path ≡ true → Known b.first s.journal path
  known_numbers path has = elim (numbered_file s.ask s.files graph is s.numbering path has) [
    | inl old ↦ b.numbered path old
    | inr file ↦ b.files path file
  ]

  -- few paths have numbers then
  pub few_numbers : (numbering : List (List ℕ)) → AreEntries s.ask.entries → numbering ≡ numbers → length numbering ≤ 327680
  few_numbers numbering are e =
      subst (λ x. length x ≤ 327680) (sym e) (few_known b.first s.journal numbers b.few few (numbered_distinct s.ask s.files graph is s.numbering b.distinct are.distinct) known_numbers)

  entries_numbered : All (λ entry. has_path numbers entry ≡ true) s.ask.entries
  entries_numbered =
      All-from_get_or (λ entry. has_path numbers entry ≡ true) s.ask.entries [] (λ i inside.
      extended_entry s.numbering s.ask.entries (keys graph) (get_or s.ask.entries i []) (contains_has s.ask.entries (get_or s.ask.entries i []) (Contains-get_or s.ask.entries i [] inside)))

  -- these numbers and this revision are a build
  next_by :
      (revision : Revision) → AreEntries s.ask.entries → WasMadeAfter s.latest revision → revision.entries ≡ numbers_of numbers s.ask.entries → revision.dev ≡ s.ask.options.dev → revision.changes ≡ length s.journal
      → IsNext s (record { numbering = numbers; revision = revision })
  next_by revision are made starts dev changes = record {
    kept = extended_more s.numbering s.ask.entries (keys graph);
    numbered = numbered_file s.ask s.files graph is s.numbering;
    distinct = numbered_distinct s.ask s.files graph is s.numbering b.distinct are.distinct;
    entries = entries_numbered;
    starts = starts;
    made = made;
    dev = dev;
    changes = changes;
  }

  pub next_is :
      (numbering entries : List (List ℕ)) (options : Options) (modules : Modules) (revision : Revision) (latest : Option Revision) (changes : ℕ) → AreEntries s.ask.entries → numbering ≡ numbers → latest ≡ s.latest → changes ≡ length s.journal
      → options ≡ s.ask.options → entries ≡ s.ask.entries → WasMadeAfter latest revision → revision ≡ made_after latest options.dev changes (numbers_of numbering entries) modules → IsNext s (record { numbering = numbering; revision = revision })
  next_is numbering entries options modules revision latest changes are n l c o e made is_made =
      subst (λ x. IsNext s (record { numbering = x; revision = revision })) (sym n)
      (next_by revision are (subst (λ x. WasMadeAfter x revision) l made)
      (ap (λ (r : Revision). r.entries) is_made ∙ ap (λ x. numbers_of x entries) n ∙ ap (numbers_of numbers) e)
      (ap (λ (r : Revision). r.dev) is_made ∙ ap (λ (x : Options). x.dev) o)
      (ap (λ (r : Revision). r.changes) is_made ∙ c))

-- ---- where the modules are those of the files

-- the paths of the graph get the next numbers
pub numbering_is : (s : State) (graph : GraphMap) (numbering : List (List ℕ)) → fresh_graph s.ask s.files ≡ Ok graph → numbering ≡ extended s.numbering s.ask.entries (keys graph) → numbering ≡ numbering_after s
numbering_is s graph numbering fresh e = e ∙ ap (extended s.numbering s.ask.entries) (fresh_keys s.ask s.files graph fresh)

pub all_have : (s : State) (numbering : List (List ℕ)) → numbering ≡ numbering_after s → list_all (has_path numbering) (reach s.ask s.files) ≡ true
all_have s numbering e = subst (λ x. list_all (has_path x) (reach s.ask s.files) ≡ true) (sym e) (all_numbered s)

-- the numbers and the revision make the next build
pub build_is :
    (s : State) (numbering : List (List ℕ)) (revision : Revision) (latest : Option Revision) (changes : ℕ) → numbering ≡ numbering_after s → latest ≡ s.latest → changes ≡ length s.journal
    → revision ≡ revision_after s.ask latest changes numbering s.files → record { numbering = numbering; revision = revision } ≡ next_build s
build_is s numbering revision latest changes n l c r =
    ap (λ x. record { numbering = numbering; revision = x }) (r ∙ ap (λ x. revision_after s.ask x changes numbering s.files) l ∙ ap (λ x. revision_after s.ask s.latest x numbering s.files) c)
    ∙ ap (λ x. record { numbering = x; revision = revision_after s.ask s.latest (length s.journal) x s.files }) n
