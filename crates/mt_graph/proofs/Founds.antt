-- What is found at a path, where there is a source.
use Rattle.std.proofs.Common.{inl, inr, ◌⊎◌, ◌≡◌, ◌∙◌, ◌||◌, ℕ, Bool, true, false, cond, List, [], ◌∷◌, ◌++◌, map, Option, Some, None, Result, Ok, Err, is_some, refl, ap, sym, subst}
use Rattle.std.specs.List.{Contains, cons_option, filter_map, list_any}
use Rattle.std.specs.Option.{option_map, option_map_or}
use Rattle.std.specs.Str.{bytes_eq}
use Rattle.std.proofs.lemmas.Bool.{cases_Bool, false≢true}
use Rattle.mt_containers.proofs.Members.{contains_head, contains_tail}
use Rattle.mt_tokens.specs.Deps.{Dependency}
use Rattle.mt_tokens.specs.Transform.{Transformed, dependencies_of, transformed}
use Rattle.mt_tokens.specs.declared.source.SourceFault.{SourceFault}
use Rattle.mt_package.specs.declared.options.Options.{Options}
use Rattle.mt_files.specs.Snapshots.{Snapshot, has_source, source_at}
use Rattle.mt_files.specs.Resolve.{file_of}
use Rattle.mt_files.specs.Edges.{edges, kind_of, target_of}
use Rattle.mt_files.specs.declared.target.Target.{Target}
use Rattle.mt_files.proofs.PathLists.{has_self, same_path}
use Rattle.mt_transform.specs.Outputs.{name_of, output_made, output_of}
use Rattle.mt_transform.specs.declared.output.Output.{Output}
use Rattle.mt_graph.specs.Founds.{files_of, found_at, found_in, found_with, link_of, links_of, made_of, paths_of}
use Rattle.mt_graph.specs.declared.found.Found.{Found}

-- what a source became, as its output
abbrev pub output_from : Options → List ℕ → List ℕ → Transformed → Output
output_from options p source t = record { source = source; strip = options.strip; kind = kind_of p; body = t.body; names = map name_of t.dependencies; dynamic = t.dynamic }

module _ (options : Options) (files : Snapshot) where
  -- where there is a source, something is found
  pub found_there : (p : List ℕ) → has_source files p ≡ true → (source : List ℕ) × ((source_at files p ≡ Some source) × (found_in options files p ≡ Some (found_at options files p source)))
  found_there p h = by (source_at files p) refl h
    where
      by : (s : Option (List ℕ)) → source_at files p ≡ s → is_some s ≡ true → (source : List ℕ) × ((source_at files p ≡ Some source) × (found_in options files p ≡ Some (found_at options files p source)))
      by None e k = absurd (false≢true k)
      by (Some source) e k = (source, (e, ap (option_map (found_at options files p)) e))

  -- what was found at sources has their paths
  pub paths_found : (ps : List (List ℕ)) → ((q : List ℕ) → Contains ps q → has_source files q ≡ true) → paths_of (filter_map (found_in options files) ps) ≡ ps
  paths_found [] h = refl
  paths_found (p ∷ ps) h =
      let f = found_there p (h p (contains_head p ps)) in
      ap (λ o. paths_of (cons_option o (filter_map (found_in options files) ps))) f.1.1
      ∙ ap (λ z. p ∷ z) (paths_found ps (λ q k. h q (contains_tail p q ps k)))

  none_either : (b : Bool) (o : Option Found) → o ≡ None → cond b o None ≡ None
  none_either true o h = h
  none_either false o h = refl

  -- what was found at a path is what is found there, with one path more
  found_one :
      (p : List ℕ) (ps : List (List ℕ)) (q : List ℕ) (b : Bool) (s : Option (List ℕ)) → bytes_eq q p ≡ b → source_at files p ≡ s
      → found_with (filter_map (found_in options files) ps) q ≡ cond (list_any (bytes_eq q) ps) (found_in options files q) None
      → found_with (filter_map (found_in options files) (p ∷ ps)) q ≡ cond (bytes_eq q p || list_any (bytes_eq q) ps) (found_in options files q) None
  found_one p ps q true None e h k =
      let here : found_in options files q ≡ None = ap (λ z. found_in options files z) (same_path q p e) ∙ ap (option_map (found_at options files p)) h in
      ap (λ o. found_with (cons_option o (filter_map (found_in options files) ps)) q) (ap (option_map (found_at options files p)) h)
      ∙ k ∙ none_either (list_any (bytes_eq q) ps) (found_in options files q) here
      ∙ sym (ap (λ b. cond (b || list_any (bytes_eq q) ps) (found_in options files q) None) e ∙ here)
  found_one p ps q true (Some source) e h k =
      ap (λ o. found_with (cons_option o (filter_map (found_in options files) ps)) q) (ap (option_map (found_at options files p)) h)
      ∙ ap (λ b. cond b (Some (found_at options files p source)) (found_with (filter_map (found_in options files) ps) q)) e
      ∙ sym (ap (λ b. cond (b || list_any (bytes_eq q) ps) (found_in options files q) None) e ∙ ap (λ z. found_in options files z) (same_path q p e) ∙ ap (option_map (found_at options files p)) h)
  found_one p ps q false None e h k =
      ap (λ o. found_with (cons_option o (filter_map (found_in options files) ps)) q) (ap (option_map (found_at options files p)) h)
      ∙ k ∙ sym (ap (λ b. cond (b || list_any (bytes_eq q) ps) (found_in options files q) None) e)
  found_one p ps q false (Some source) e h k =
      ap (λ o. found_with (cons_option o (filter_map (found_in options files) ps)) q) (ap (option_map (found_at options files p)) h)
      ∙ ap (λ b. cond b (Some (found_at options files p source)) (found_with (filter_map (found_in options files) ps) q)) e
      ∙ k ∙ sym (ap (λ b. cond (b || list_any (bytes_eq q) ps) (found_in options files q) None) e)

  pub found_with_in : (ps : List (List ℕ)) (q : List ℕ) → found_with (filter_map (found_in options files) ps) q ≡ cond (list_any (bytes_eq q) ps) (found_in options files q) None
  found_with_in [] q = refl
  found_with_in (p ∷ ps) q = found_one p ps q (bytes_eq q p) (source_at files p) refl refl (found_with_in ps q)

  -- ---- where the names lead

  files_linked : (p : List ℕ) (ds : List Dependency) → files_of (map (link_of options files p) (map name_of ds)) ≡ filter_map file_of (map (target_of options files p) ds)
  files_linked p [] = refl
  files_linked p (d ∷ ds) = ap (cons_option (file_of (target_of options files p d))) (files_linked p ds)

  files_made : (p source : List ℕ) (t : Result Transformed SourceFault) → files_of (links_of options files p (output_made options.strip (kind_of p) source t)) ≡ filter_map file_of (map (target_of options files p) (dependencies_of t))
  files_made p source (Ok t) = files_linked p t.dependencies
  files_made p source (Err fault) = refl

  -- the links of what a source becomes lead to the edges
  pub links_lead : (p source : List ℕ) → source_at files p ≡ Some source → files_of (links_of options files p (made_of options p source)) ≡ edges options files p
  links_lead p source h =
      files_made p source (transformed options.strip (kind_of p) source)
      ∙ sym (ap (λ s. filter_map file_of (map (target_of options files p) (option_map_or dependencies_of (option_map (transformed options.strip (kind_of p)) s) []))) h)
