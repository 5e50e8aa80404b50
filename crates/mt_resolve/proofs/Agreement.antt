-- Snapshots that agree on the paths which one is asked about lead a name to the same target.
use Rattle.std.proofs.Common.{◌≡◌, ◌∙◌, ℕ, zero, suc, ◌==◌, length, take, filter, Bool, true, false, cond, List, [], ◌∷◌, ◌++◌, map, Option, Some, None, ap, sym, subst, refl, append_assoc, codes}
use Rattle.std.specs.Prelude.{All, IfSome, is_some, nat_lt, option_and_then, option_to_list}
use Rattle.std.specs.List.{AllByRecursion, cons_option, filter_map, flat_map, list_all}
use Rattle.std.specs.Option.{option_map, option_map_or, unwrap_or}
use Rattle.std.proofs.lemmas.List.Elements.{recursion_from_All}
use Rattle.mt_path.specs.Segments.{is_segment, parts_of, segments_of, slash, text_of}
use Rattle.mt_path.specs.Parse.{IsPath, bounded, max_bytes}
use Rattle.mt_path.specs.Names.{folder_of, last, name_of}
use Rattle.mt_path.specs.Join.{joined, walk}
use Rattle.mt_path.proofs.Folders.{last_push}
use Rattle.mt_path.proofs.Paths.{push_keeps, segments_all, take_keeps, walk_all}
use Rattle.mt_path.proofs.Segments.{folder_is_path, segments_of_text}
use Rattle.mt_path.specs.Children.{child_of}
use Rattle.mt_package.specs.Packages.{package_of}
use Rattle.mt_package.specs.declared.options.Options.{Options}
use Rattle.mt_tokens.specs.declared.source.DepKind.{DepKind}
use Rattle.mt_files.specs.Snapshots.{Snapshot, has_source, source_at}
use Rattle.mt_files.specs.Resolve.{AgreeAt, Candidate, asked, candidates, files_for, first_stop, folder_for, folders_up, holders, index_for, is_bad, is_relative, kept_in, last_part, main_for, names_something, or_first, package_at, path_for, paths_for, probes, resolved}
use Rattle.mt_files.specs.Resolve.Candidate.{Source, Package}
use Rattle.mt_files.specs.declared.target.Target.{Target}
use Rattle.mt_files.specs.declared.target.Target.TheVariants as target

abbrev Agreed : Snapshot → Snapshot → List (List ℕ) → Type 0
Agreed f g ps = AllByRecursion (AgreeAt f g) ps

-- the search ends alike
abbrev Same : Snapshot → Snapshot → List Candidate → List Candidate → Type 0
Same f g cs ds = (first_stop f cs ≡ first_stop g ds) × (asked f cs ≡ asked g ds)

-- it does where the snapshots agree on what the first is asked about
abbrev Follows : Snapshot → Snapshot → List Candidate → List Candidate → Type 0
Follows f g cs ds = Agreed f g (asked f cs) → Same f g cs ds

abbrev stopped : Bool → Target → Option Target
stopped b t = cond b (Some t) None

-- one candidate more, of which both say the same
one_more :
    (f g : Snapshot) (t : Target) (path : List ℕ) (cs ds : List Candidate) (b c : Bool) → b ≡ c → (Agreed f g (asked f cs) → Same f g cs ds)
    → Agreed f g (cond (is_some (stopped b t)) [] (asked f cs))
    → (or_first (stopped b t) (first_stop f cs) ≡ or_first (stopped c t) (first_stop g ds)) × ((path ∷ cond (is_some (stopped b t)) [] (asked f cs)) ≡ (path ∷ cond (is_some (stopped c t)) [] (asked g ds)))
one_more f g t path cs ds true c e h a = rw (sym e) (refl, refl)
one_more f g t path cs ds false c e h a = let r = h a in rw (sym e) (r.0, ap (λ ps. path ∷ ps) r.1)

with_sources : (f g : Snapshot) (ps : List (List ℕ)) (cs ds : List Candidate) → Follows f g cs ds → Follows f g (map Source ps ++ cs) (map Source ps ++ ds)
with_sources f g [] cs ds h a = h a
with_sources f g (p ∷ ps) cs ds h a = one_more f g (target.File p) p (map Source ps ++ cs) (map Source ps ++ ds) (has_source f p) (has_source g p) a.0.there (with_sources f g ps cs ds h) a.1

-- the rest of a folder's candidates after its package file
abbrev after_package : Options → Snapshot → List ℕ → List ℕ → List Candidate → List Candidate
after_package options files folder file cs = (map Source (main_for options folder (package_at files file)) ++ map Source (index_for options folder)) ++ cs

after_same :
    (options : Options) (f g : Snapshot) (folder file : List ℕ) (cs ds : List Candidate) → source_at f file ≡ source_at g file → Follows f g cs ds
    → Follows f g (after_package options f folder file cs) (after_package options g folder file ds)
after_same options f g folder file cs ds e h =
    let ms = main_for options folder (package_at f file) in
    let is = index_for options folder in
    let x : package_at f file ≡ package_at g file = ap (option_map package_of) e in
    let k : Follows f g (map Source ms ++ (map Source is ++ cs)) (map Source ms ++ (map Source is ++ ds)) = with_sources f g ms (map Source is ++ cs) (map Source is ++ ds) (with_sources f g is cs ds h) in
    rw (append_assoc (map Source ms) (map Source is) cs, sym x, append_assoc (map Source ms) (map Source is) ds) k

with_package :
    (options : Options) (f g : Snapshot) (folder file : List ℕ) (cs ds : List Candidate) → name_of file ≡ codes "package.json" → Follows f g cs ds
    → Follows f g (Package file ∷ after_package options f folder file cs) (Package file ∷ after_package options g folder file ds)
with_package options f g folder file cs ds n h a =
    let e = a.0.bytes n in
    let x : is_bad (package_at f file) ≡ is_bad (package_at g file) = ap (λ s. is_bad (option_map package_of s)) e in
    one_more f g (target.BadPackage file) file (after_package options f folder file cs) (after_package options g folder file ds) (is_bad (package_at f file)) (is_bad (package_at g file)) x
    (after_same options f g folder file cs ds e h) a.1

-- ---- paths whose parts are segments

abbrev Whole : List ℕ → Type 0
Whole path = list_all is_segment (segments_of path) ≡ true

whole_text : (ss : List (List ℕ)) → list_all is_segment ss ≡ true → Whole (text_of ss)
whole_text ss h = rw (segments_of_text ss h) h

bounded_is : (b : Bool) (t p : List ℕ) → cond b None (Some t) ≡ Some p → t ≡ p
bounded_is true t p h = absurd (cc)
bounded_is false t p h = cc

walked : (from parts : List (List ℕ)) (o : Option (List (List ℕ))) (p : List ℕ) → list_all is_segment from ≡ true → walk (Some from) parts ≡ o → option_and_then (λ ss. bounded (text_of ss)) o ≡ Some p → Whole p
walked from parts None p w k e = absurd (cc)
walked from parts (Some ss) p w k e = subst Whole (bounded_is (nat_lt max_bytes (length (text_of ss))) (text_of ss) p e) (whole_text ss (walk_all from parts ss w k))

joined_whole : (folder name p : List ℕ) → Whole folder → joined folder name ≡ Some p → Whole p
joined_whole folder name p w e = walked (segments_of folder) (parts_of name) (walk (Some (segments_of folder)) (parts_of name)) p w refl e

child_is : (s : Bool) (t n p : List ℕ) → cond s (bounded t) None ≡ Some p → (s ≡ true) × (t ≡ p)
child_is true t n p h = (refl, bounded_is (nat_lt max_bytes (length t)) t p h)
child_is false t n p h = absurd (cc)

child_segments : (folder name p : List ℕ) → Whole folder → child_of folder name ≡ Some p → (segments_of p ≡ segments_of folder ++ name ∷ []) × Whole p
child_segments folder name p w e =
    let c = child_is (is_segment name) (text_of (segments_of folder ++ name ∷ [])) name p e in
    let k = push_keeps (segments_of folder) name w c.0 in
    (ap segments_of (sym c.1) ∙ segments_of_text (segments_of folder ++ name ∷ []) k, subst Whole c.1 (whole_text (segments_of folder ++ name ∷ []) k))

child_name : (folder name p : List ℕ) → Whole folder → child_of folder name ≡ Some p → name_of p ≡ name
child_name folder name p w e = ap (λ o. unwrap_or o []) (ap last (child_segments folder name p w e).0 ∙ last_push (segments_of folder) name)

ups_whole : (n : ℕ) (ss : List (List ℕ)) → list_all is_segment ss ≡ true → AllByRecursion Whole (folders_up n ss)
ups_whole zero ss h = (refl, tt)
ups_whole (suc n) ss h = (whole_text (take (suc n) ss) (take_keeps (suc n) ss h), ups_whole n ss h)

filter_by : (b : Bool) (x : List ℕ) (xs : List (List ℕ)) → Whole x → AllByRecursion Whole xs → AllByRecursion Whole (cond b (x ∷ xs) xs)
filter_by true x xs w h = (w, h)
filter_by false x xs w h = h

filter_whole : (test : List ℕ → Bool) (xs : List (List ℕ)) → AllByRecursion Whole xs → AllByRecursion Whole (filter test xs)
filter_whole test [] h = tt
filter_whole test (x ∷ xs) h = filter_by (test x) x (filter test xs) h.0 (filter_whole test xs h.1)

kept_by : (name : List ℕ) (o : Option (List ℕ)) (p : List ℕ) → IfSome o Whole → option_and_then (λ modules. joined modules name) o ≡ Some p → Whole p
kept_by name None p h e = absurd (cc)
kept_by name (Some modules) p h e = joined_whole modules name p h e

child_there : (folder name : List ℕ) (o : Option (List ℕ)) → Whole folder → child_of folder name ≡ o → IfSome o Whole
child_there folder name None w e = tt
child_there folder name (Some p) w e = (child_segments folder name p w e).1

add_whole : (o : Option (List ℕ)) (ps : List (List ℕ)) → ((p : List ℕ) → o ≡ Some p → Whole p) → AllByRecursion Whole ps → AllByRecursion Whole (cons_option o ps)
add_whole None ps h k = k
add_whole (Some p) ps h k = (h p refl, k)

kept_whole : (name : List ℕ) (folders : List (List ℕ)) → AllByRecursion Whole folders → AllByRecursion Whole (filter_map (kept_in name) folders)
kept_whole name [] h = tt
kept_whole name (folder ∷ folders) h =
    add_whole (kept_in name folder) (filter_map (kept_in name) folders)
    (λ p e. kept_by name (child_of folder (codes "node_modules")) p (child_there folder (codes "node_modules") _ h.0 refl) e)
    (kept_whole name folders h.1)

one_whole : (o : Option (List ℕ)) → ((p : List ℕ) → o ≡ Some p → Whole p) → AllByRecursion Whole (option_to_list o)
one_whole None h = tt
one_whole (Some p) h = (h p refl, tt)

either_whole : (b : Bool) (xs ys : List (List ℕ)) → AllByRecursion Whole xs → AllByRecursion Whole ys → AllByRecursion Whole (cond b xs ys)
either_whole true xs ys h k = h
either_whole false xs ys h k = k

paths_whole : (folder name : List ℕ) → Whole folder → AllByRecursion Whole (paths_for folder name)
paths_whole folder [] w = tt
paths_whole folder (b ∷ bs) w =
    either_whole (b == slash) _ _ (one_whole (joined (slash ∷ []) (b ∷ bs)) (λ p e. joined_whole (slash ∷ []) (b ∷ bs) p refl e))
    (either_whole (is_relative (b ∷ bs)) _ _ (one_whole (joined folder (b ∷ bs)) (λ p e. joined_whole folder (b ∷ bs) p w e))
    (kept_whole (b ∷ bs) (holders folder) (filter_whole _ (folders_up (length (segments_of folder)) (segments_of folder)) (ups_whole (length (segments_of folder)) (segments_of folder) w))))

-- ---- whole searches

with_folder_by :
    (options : Options) (f g : Snapshot) (folder : List ℕ) (o : Option (List ℕ)) (cs ds : List Candidate) → IfSome o (λ file. name_of file ≡ codes "package.json") → Follows f g cs ds
    → Follows f g ((option_map_or (λ file. Package file ∷ map Source (main_for options folder (package_at f file))) o [] ++ map Source (index_for options folder)) ++ cs)
    ((option_map_or (λ file. Package file ∷ map Source (main_for options folder (package_at g file))) o [] ++ map Source (index_for options folder)) ++ ds)
with_folder_by options f g folder None cs ds n h = with_sources f g (index_for options folder) cs ds h
with_folder_by options f g folder (Some file) cs ds n h = with_package options f g folder file cs ds n h

package_there : (folder : List ℕ) (o : Option (List ℕ)) → Whole folder → child_of folder (codes "package.json") ≡ o → IfSome o (λ file. name_of file ≡ codes "package.json")
package_there folder None w e = tt
package_there folder (Some file) w e = child_name folder (codes "package.json") file w e

with_folder : (options : Options) (f g : Snapshot) (folder : List ℕ) (cs ds : List Candidate) → Whole folder → Follows f g cs ds → Follows f g (folder_for options f folder ++ cs) (folder_for options g folder ++ ds)
with_folder options f g folder cs ds w h = with_folder_by options f g folder (child_of folder (codes "package.json")) cs ds (package_there folder _ w refl) h

with_files : (options : Options) (f g : Snapshot) (b : Bool) (path : List ℕ) (cs ds : List Candidate) → Follows f g cs ds → Follows f g (cond b (map Source (files_for options path)) [] ++ cs) (cond b (map Source (files_for options path)) [] ++ ds)
with_files options f g true path cs ds h = with_sources f g (files_for options path) cs ds h
with_files options f g false path cs ds h = h

with_path :
    (options : Options) (f g : Snapshot) (name path : List ℕ) (cs ds : List Candidate) → Whole path → Follows f g cs ds → Follows f g (path_for options f name path ++ cs) (path_for options g name path ++ ds)
with_path options f g name path cs ds w h =
    let b = names_something (last_part name) in
    let first = cond b (map Source (files_for options path)) [] in
    let k = with_files options f g b path (folder_for options f path ++ cs) (folder_for options g path ++ ds) (with_folder options f g path cs ds w h) in
    rw (append_assoc first (folder_for options f path) cs, append_assoc first (folder_for options g path) ds) k

follow_all : (options : Options) (f g : Snapshot) (name : List ℕ) (paths : List (List ℕ)) → AllByRecursion Whole paths → Follows f g (flat_map (path_for options f name) paths) (flat_map (path_for options g name) paths)
follow_all options f g name [] w a = (refl, refl)
follow_all options f g name (p ∷ ps) w a = with_path options f g name p (flat_map (path_for options f name) ps) (flat_map (path_for options g name) ps) w.0 (follow_all options f g name ps w.1) a

same_search : (options : Options) (f g : Snapshot) (origin name : List ℕ) (kind : DepKind) → IsPath origin → All (AgreeAt f g) (probes options f origin name kind) → Same f g (candidates options f (folder_of origin) name) (candidates options g (folder_of origin) name)
unfolding probes
same_search options f g origin name kind p a =
    follow_all options f g name (paths_for (folder_of origin) name) (paths_whole (folder_of origin) name (segments_all (folder_of origin) (folder_is_path origin p))) (recursion_from_All (AgreeAt f g) _ a)

pub same_target :
    (options : Options) (f g : Snapshot) (origin name : List ℕ) (kind : DepKind) → IsPath origin → All (AgreeAt f g) (probes options f origin name kind) → resolved options f origin name kind ≡ resolved options g origin name kind
unfolding resolved
same_target options f g origin name kind p a = ap (λ o. unwrap_or o target.None) (same_search options f g origin name kind p a).0

pub same_probes :
    (options : Options) (f g : Snapshot) (origin name : List ℕ) (kind : DepKind) → IsPath origin → All (AgreeAt f g) (probes options f origin name kind) → probes options f origin name kind ≡ probes options g origin name kind
unfolding probes
same_probes options f g origin name kind p a = (same_search options f g origin name kind p a).1
