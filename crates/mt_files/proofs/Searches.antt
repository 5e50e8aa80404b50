-- The files that a crawl meets are found folder by folder, until none waits.
use Rattle.std.proofs.Common.{◌⊎◌, inl, inr, ◌≡◌, ◌∙◌, ◌&&◌, ◌==◌, nat_lt, arith, ℕ, Bool, true, false, cond, not, List, [], ◌∷◌, ◌++◌, length, drop, map, filter, Option, Some, None, refl, sym, ap, subst, if◌then◌else◌, is_some}
use Rattle.std.specs.Prelude.{T, Result, Ok, Err}
use Rattle.std.specs.Result.{is_ok}
use Rattle.mt_path.specs.declared.path.PathFault.{PathFault}
use Rattle.mt_path.specs.declared.path.PathFault.TheVariants.{BadSegment, NotRooted, TooLong}
use Rattle.std.specs.Ordering.{nat_cmp, eq_by_cmp, is_lt}
use Rattle.std.specs.Cmp.Lexicographic.{slice_cmp, nat_list_cmp_total}
use Rattle.std.specs.FinMap.{contains_key, contains_key-keys, empty, entries, entries_sorted, get, get-empty, get-entries, keys, slice_cmp-IsAntisymmetric, nat_cmp-IsAntisymmetric}
use Rattle.std.specs.FinMap.Entries.{below_all, find, find-where_key, is_sorted, is_sorted-where_key, same_entries, where_key}
use Rattle.std.specs.List.{Any, Contains, list_any}
use Rattle.std.specs.Option.{option_map, option_map_or}
use Rattle.std.proofs.lemmas.Bool.{and_parts}
use Rattle.std.proofs.lemmas.List.Elements.{Contains-push_cases, Contains-append_cases, Contains-append_left, Contains-append_right, Contains-push}
use Rattle.mt_path.proofs.Paths.{path_parts}
use Rattle.mt_path.specs.Parse.{IsPath, first_bad, parsed, parsed_parts}
use Rattle.mt_path.specs.Segments.{parts_of, segments_of}
use Rattle.mt_path.specs.Names.{is_root, without_last}
use Rattle.mt_path.specs.Children.{child_of, prefix_of}
use Rattle.mt_io.specs.declared.folder.Named.{Named}
use Rattle.mt_io.specs.declared.folder.NamedKind.TheVariants.{File, Folder, Other}
use Rattle.mt_io.specs.Files.{Files, IsChildrenOf, child_toward, first_of, is_below, is_folder_in, rest_of}
use Rattle.mt_io.proofs.Children.{child_met, child_told, folder_there}
use Rattle.mt_io.proofs.Rests.{below_front, rest_parts}
use Rattle.mt_containers.proofs.Members.{contains_filter, contains_filter_map, contains_none, filter_map_contains}
use Rattle.mt_files.specs.PathSets.{Paths, with_paths}
use Rattle.mt_files.specs.Search.{IsOpen, IsSearched, IsShown, are_open, file_in, files_in, files_met, folder_in, folders_in, is_file_path, is_hidden, is_met}
use Rattle.mt_files.proofs.Children.{begins_in, child_file_met, child_open, child_parts, file_child, file_rest, folder_child, not_true}
use Rattle.std.specs.Str.{bytes_eq}
use Rattle.mt_files.proofs.PathLists.{contains_has, has_contains, has_key}
use Rattle.mt_files.proofs.PathSets.{set_cases, set_more, set_old}

-- ---- what a path that is met is

parts_ok : (rest t : List ℕ) → parsed_parts rest ≡ Ok t → parsed_parts rest ≡ Ok (47 ∷ rest)
parts_ok [] t h = refl
parts_ok (b ∷ bs) t h =
    elim (first_bad (parts_of (b ∷ bs))) as (λ o. option_map_or (λ at. Err (BadSegment at)) o (Ok (47 ∷ b ∷ bs)) ≡ Ok t → option_map_or (λ at. Err (BadSegment at)) o (Ok (47 ∷ b ∷ bs)) ≡ Ok (47 ∷ b ∷ bs)) [
      | None ↦ λ _. refl
      | Some at ↦ λ h. cc
    ] h

path_ok_by :
    (c : ℕ) (rest t : List ℕ) (rooted long : Bool) → (c == 47) ≡ rooted → cond rooted (cond long (Err (TooLong (length (c ∷ rest)))) (parsed_parts rest)) (Err NotRooted) ≡ Ok t
    → cond rooted (cond long (Err (TooLong (length (c ∷ rest)))) (parsed_parts rest)) (Err NotRooted) ≡ Ok (c ∷ rest)
path_ok_by c rest t false long e h = cc
path_ok_by c rest t true true e h = cc
path_ok_by c rest t true false e h = let is : c ≡ 47 = grind arith in parts_ok rest t h ∙ ap (λ x. Ok (x ∷ rest)) (sym is)

-- what a text is parsed as is the text
path_ok : (path t : List ℕ) → parsed path ≡ Ok t → IsPath path
path_ok [] t h = cc
path_ok (c ∷ rest) t h = path_ok_by c rest t (c == 47) (nat_lt 1024 (length (c ∷ rest))) refl h

ok_by : (path : List ℕ) (r : Result (List ℕ) PathFault) → parsed path ≡ r → is_ok r ≡ true → IsPath path
ok_by path (Err e) p h = cc
ok_by path (Ok t) p h = path_ok path t p

-- what a path that is met is
file_path : (path : List ℕ) → is_met path ≡ true → IsPath path × (are_open (without_last (segments_of path)) ≡ true)
file_path path h =
    let p = and_parts (is_file_path path) (are_open (without_last (segments_of path))) h in
    (ok_by path (parsed path) refl (and_parts (is_ok (parsed path)) (not (is_root path)) p.0).0, p.1)

any_of : (P : List ℕ → Type 0) (xs : List (List ℕ)) (x : List ℕ) → Contains xs x → P x → Any P xs
any_of P xs x (k, inside, is) h = (k, x, inside, is, h)

any_is : (P : List ℕ → Type 0) (xs : List (List ℕ)) → Any P xs → (x : List ℕ) × Contains xs x × P x
any_is P xs (k, x, inside, is, h) = (x, (k, inside, is), h)

-- ---- through which child a path leads

below_leads : (place path : List ℕ) → is_below (prefix_of place) path ≡ true → child_toward place path ≡ Some (first_of (drop (length (prefix_of place)) path))
below_leads place path h = rw h refl

-- the rest through which a path leads to a child
leads_rest : (place path : List ℕ) (n : Named) → child_toward place path ≡ Some n → (rest : List ℕ) × (rest_of (prefix_of place) path ≡ Some rest) × (first_of rest ≡ n)
leads_rest place path n h =
    elim (rest_of (prefix_of place) path) as (λ o. rest_of (prefix_of place) path ≡ o → option_map first_of o ≡ Some n → (rest : List ℕ) × (rest_of (prefix_of place) path ≡ Some rest) × (first_of rest ≡ n)) [
      | None ↦ λ _ h. cc
      | Some rest ↦ λ e h. (rest, e, cc)
    ] refl h

-- the file through which a path leads is its own
own_file : (place path : List ℕ) (n : Named) → IsPath place → is_met path ≡ true → child_toward place path ≡ Some n → n.kind ≡ File → child_of place n.name ≡ Some path
own_file place path n h met leads file =
    let r = leads_rest place path n leads in
    ap (λ c. child_of place c.name) (sym r.2) ∙ file_child place path r.0 h (file_path path met).0 r.1 (ap (λ c. c.kind) r.2 ∙ file)

-- the file that a name is of is in the tree
told_file : (tree : Files) (place : List ℕ) (n : Named) (q : List ℕ) → IsPath place → (path : List ℕ) × (contains_key tree path ≡ true) × (child_toward place path ≡ Some n) → n.kind ≡ File → child_of place n.name ≡ Some q → contains_key tree q ≡ true
told_file tree place n q h (path, has, leads) file e =
    let r = leads_rest place path n leads in
    let f = file_rest r.0 (ap (λ c. c.kind) r.2 ∙ file) in
    let name : n.name ≡ r.0 = ap (λ c. c.name) (sym r.2) ∙ f.0 in
    let c = child_parts place n.name q h e in
    let is : path ≡ q = (rest_parts (prefix_of place) path r.0 r.1).0 ∙ ap (λ x. prefix_of place ++ x) (sym name) ∙ sym c.1 in
    subst (λ x. contains_key tree x ≡ true) is has

-- the folder through which a path leads
own_folder : (place path : List ℕ) (n : Named) → IsPath place → is_met path ≡ true → child_toward place path ≡ Some n → n.kind ≡ Folder → (q : List ℕ) × (child_of place n.name ≡ Some q) × (is_hidden n.name ≡ false) × (is_below (prefix_of q) path ≡ true)
own_folder place path n h met leads folder =
    let r = leads_rest place path n leads in
    let w = file_path path met in
    let f = folder_child place path r.0 h w.0 w.1 r.1 (ap (λ c. c.kind) r.2 ∙ folder) in
    (f.0, ap (λ c. child_of place c.name) (sym r.2) ∙ f.1, ap (λ c. is_hidden c.name) (sym r.2) ∙ f.2, f.3)

file_or_folder : (rest : List ℕ) (b : Bool) → cond b Folder File ≡ Other → ⊥
file_or_folder rest true h = cc
file_or_folder rest false h = cc

no_other : (place path : List ℕ) (n : Named) → child_toward place path ≡ Some n → n.kind ≡ Other → ⊥
no_other place path n leads other = let r = leads_rest place path n leads in file_or_folder r.0 _ (ap (λ c. c.kind) r.2 ∙ other)

-- a folder that is named is there
named_there : (tree : Files) (place : List ℕ) (n : Named) (q : List ℕ) → IsPath place → (path : List ℕ) × (contains_key tree path ≡ true) × (child_toward place path ≡ Some n) → n.kind ≡ Folder → child_of place n.name ≡ Some q → is_folder_in tree q ≡ true
named_there tree place n q h (path, has, leads) folder e =
    let r = leads_rest place path n leads in
    folder_there tree q path has (begins_in place path r.0 q h r.1 (ap (λ c. c.kind) r.2 ∙ folder) (ap (λ c. child_of place c.name) r.2 ∙ e))

-- ---- what the children of a folder are

-- the file that a child is
file_in_is : (place : List ℕ) (n : Named) (q : List ℕ) → file_in place n ≡ Some q → (n.kind ≡ File) × (child_of place n.name ≡ Some q)
file_in_is place n q h =
    elim n.kind as (λ k. n.kind ≡ k → elim k [ File ↦ child_of place n.name | Folder ↦ None | Other ↦ None ] ≡ Some q → (n.kind ≡ File) × (child_of place n.name ≡ Some q)) [
      | File ↦ λ e f. (e, f)
      | Folder ↦ λ e f. cc
      | Other ↦ λ e f. cc
    ] refl h

file_in_made : (place : List ℕ) (n : Named) → n.kind ≡ File → file_in place n ≡ child_of place n.name
file_in_made place n e = rw e refl

shown_by : (b : Bool) (o : Option (List ℕ)) (q : List ℕ) → (if b then None else o) ≡ Some q → (b ≡ false) × (o ≡ Some q)
shown_by true o q h = cc
shown_by false o q h = (refl, h)

-- the folder that a child is
folder_in_is : (place : List ℕ) (n : Named) (q : List ℕ) → folder_in place n ≡ Some q → (n.kind ≡ Folder) × (is_hidden n.name ≡ false) × (child_of place n.name ≡ Some q)
folder_in_is place n q h =
    elim n.kind as (λ k. n.kind ≡ k → elim k [ File ↦ None | Folder ↦ (if is_hidden n.name then None else child_of place n.name) | Other ↦ None ] ≡ Some q → (n.kind ≡ Folder) × (is_hidden n.name ≡ false) × (child_of place n.name ≡ Some q)) [
      | File ↦ λ e f. cc
      | Folder ↦ λ e f. let s = shown_by (is_hidden n.name) (child_of place n.name) q f in (e, s.0, s.1)
      | Other ↦ λ e f. cc
    ] refl h

folder_in_made : (place : List ℕ) (n : Named) → n.kind ≡ Folder → is_hidden n.name ≡ false → folder_in place n ≡ child_of place n.name
folder_in_made place n e f = rw (e, f) refl

-- ---- a folder is listed

-- what of the folder's files and folders was not known before
pub shown_step :
    (found : Paths) (waiting : List (List ℕ)) (place : List ℕ) (names : List Named) → IsShown found (waiting ++ place ∷ [])
    → IsShown (with_paths found (files_in place names)) (waiting ++ folders_in place names)
shown_step found waiting place names h =
    let p : IsOpen place = h.opened place (Contains-push waiting place) in
    record {
      met = λ path has. elim (set_cases found (files_in place names) path has) [
        | inl new ↦ let n = contains_filter_map (file_in place) names path new in child_file_met place n.0.name path p.0 p.1 (file_in_is place n.0 path n.2).1
        | inr old ↦ h.met path old
      ];
      opened = λ q w. elim (Contains-append_cases waiting (folders_in place names) q w) [
        | inl old ↦ h.opened q (Contains-append_left waiting (place ∷ []) q old)
        | inr new ↦
            let n = contains_filter_map (folder_in place) names q new in
            let f = folder_in_is place n.0 q n.2 in
            ((child_parts place n.0.name q p.0 f.2).2, child_open place n.0.name q p.0 p.1 f.2 f.1)
      ];
    }

module _ (tree : Files) (found : Paths) (waiting : List (List ℕ)) (place : List ℕ) (names : List Named) (children : IsChildrenOf tree place names) (p : IsOpen place) where
  abbrev IsFound : List ℕ → Type 0
  IsFound path = (contains_key (with_paths found (files_in place names)) path ≡ true) ⊎ Any (λ q. is_below (prefix_of q) path ≡ true) (waiting ++ folders_in place names)

  -- a file below the folder is found, or is below a folder in it
  below_found : (path : List ℕ) → contains_key tree path ≡ true → is_met path ≡ true → is_below (prefix_of place) path ≡ true → IsFound path
  below_found path has met below =
      let n = first_of (drop (length (prefix_of place)) path) in
      let leads = below_leads place path below in
      let named = child_told tree place names children path n has leads in
      elim n.kind as (λ k. n.kind ≡ k → IsFound path) [
        | File ↦ λ file. inl (set_more found (files_in place names) path (filter_map_contains (file_in place) names n path named (file_in_made place n file ∙ own_file place path n p.0 met leads file)))
        | Folder ↦ λ folder.
            let f = own_folder place path n p.0 met leads folder in
            inr (any_of (λ q. is_below (prefix_of q) path ≡ true) (waiting ++ folders_in place names) f.0
            (Contains-append_right waiting (folders_in place names) f.0 (filter_map_contains (folder_in place) names n f.0 named (folder_in_made place n folder f.2 ∙ f.1))) f.3)
        | Other ↦ λ other. absurd (no_other place path n leads other)
      ] refl

  pub searched_step : IsSearched tree found (waiting ++ place ∷ []) → IsSearched tree (with_paths found (files_in place names)) (waiting ++ folders_in place names)
  searched_step h = record {
    sound = λ path has. elim (set_cases found (files_in place names) path has) [
      | inl new ↦
          let n = contains_filter_map (file_in place) names path new in
          let f = file_in_is place n.0 path n.2 in
          told_file tree place n.0 path p.0 (child_met tree place names children n.0 n.1) f.0 f.1
      | inr old ↦ h.sound path old
    ];
    there = λ q w. elim (Contains-append_cases waiting (folders_in place names) q w) [
      | inl old ↦ h.there q (Contains-append_left waiting (place ∷ []) q old)
      | inr new ↦
          let n = contains_filter_map (folder_in place) names q new in
          let f = folder_in_is place n.0 q n.2 in
          named_there tree place n.0 q p.0 (child_met tree place names children n.0 n.1) f.0 f.2
    ];
    whole = λ path has met. elim (h.whole path has met) [
      | inl f ↦ inl (set_old found (files_in place names) path f)
      | inr a ↦
          let c = any_is (λ q. is_below (prefix_of q) path ≡ true) (waiting ++ place ∷ []) a in
          elim (Contains-push_cases waiting place c.0 c.1) [
            | inl old ↦ inr (any_of (λ q. is_below (prefix_of q) path ≡ true) (waiting ++ folders_in place names) c.0 (Contains-append_left waiting (folders_in place names) c.0 old) c.2)
            | inr is ↦ below_found path has met (subst (λ q. is_below (prefix_of q) path ≡ true) (sym is) c.2)
          ]
    ];
  }

-- ---- at the start and at the end

none_has : (o : Option (Unit {0})) → o ≡ None → is_some o ≡ true → ⊥
none_has None e h = cc
none_has (Some u) e h = cc

no_root : (path : List ℕ) → is_met path ≡ true → is_root path ≡ false
no_root path h =
    let p = and_parts (is_file_path path) (are_open (without_last (segments_of path))) h in
    not_true (is_root path) (and_parts (is_ok (parsed path)) (not (is_root path)) p.0).1

below_root : (path : List ℕ) → IsPath path → is_root path ≡ false → is_below (prefix_of (47 ∷ [])) path ≡ true
below_root [] h r = cc
below_root (c ∷ []) h r = let is : c ≡ 47 = grind arith in let e = rw is at r in cc
below_root (c ∷ b ∷ bs) h r = let p = path_parts c b bs h in rw p.0 (below_front (47 ∷ []) (b ∷ bs) (omega arith))

only_root : (place : List ℕ) → Contains ((47 ∷ []) ∷ []) place → 47 ∷ [] ≡ place
only_root place w = elim (Contains-push_cases [] (47 ∷ []) place w) [ inl n ↦ absurd (contains_none place n) | inr e ↦ e ]

no_place_left : (paths : Paths) (q : List ℕ) → (contains_key paths q ≡ true) ⊎ Any (λ place. is_below (prefix_of place) q ≡ true) [] → contains_key paths q ≡ true
no_place_left paths q (inl h) = h
no_place_left paths q (inr (k, x, inside, is, h)) = absurd (omega arith)

-- at first the root waits, and all files that a crawl meets are below it
pub shown_start : IsShown empty ((47 ∷ []) ∷ [])
shown_start = record {
  met = λ path h. let e = get-empty {X = Unit {0}} (slice_cmp nat_cmp) path in absurd (none_has (get empty path) e h);
  opened = λ place w. subst IsOpen (only_root place w) (refl, refl);
}

pub searched_start : (tree : Files) → IsSearched tree empty ((47 ∷ []) ∷ [])
searched_start tree = record {
  sound = λ path h. let e = get-empty {X = Unit {0}} (slice_cmp nat_cmp) path in absurd (none_has (get empty path) e h);
  there = λ place w. subst (λ q. is_folder_in tree q ≡ true) (only_root place w) refl;
  whole = λ path has met. inr (0, 47 ∷ [], omega arith, refl, below_root path (file_path path met).0 (no_root path met));
}

module _ {X : Type 0} where
  marked : List (List ℕ × X) → List (List ℕ × Unit {0})
  marked [] = []
  marked (e ∷ es) = (e.0, tt) ∷ marked es

  abbrev mark : Option X → Option (Unit {0})
  mark None = None
  mark (Some x) = Some tt

  find_by : (b : Bool) (x : X) (o : Option X) → cond b (mark (Some x)) (mark o) ≡ mark (cond b (Some x) o)
  find_by true x o = refl
  find_by false x o = refl

  find-marked : (q : List ℕ) (es : List (List ℕ × X)) → find (slice_cmp nat_cmp) q (marked es) ≡ mark (find (slice_cmp nat_cmp) q es)
  unfolding marked
  find-marked q [] = refl
  find-marked q (e ∷ es) = ap (cond (eq_by_cmp (slice_cmp nat_cmp) q e.0) (Some tt)) (find-marked q es) ∙ find_by (eq_by_cmp (slice_cmp nat_cmp) q e.0) e.1 (find (slice_cmp nat_cmp) q es)

  below_all-marked : (k : List ℕ) (es : List (List ℕ × X)) → below_all (slice_cmp nat_cmp) k (marked es) ≡ below_all (slice_cmp nat_cmp) k es
  unfolding marked
  below_all-marked k [] = refl
  below_all-marked k (e ∷ es) = ap (λ b. is_lt (slice_cmp nat_cmp k e.0) && b) (below_all-marked k es)

  is_sorted-marked : (es : List (List ℕ × X)) → is_sorted (slice_cmp nat_cmp) (marked es) ≡ is_sorted (slice_cmp nat_cmp) es
  unfolding marked
  is_sorted-marked [] = refl
  is_sorted-marked (e ∷ es) = ap (λ b. b && is_sorted (slice_cmp nat_cmp) (marked es)) (below_all-marked e.0 es) ∙ ap (λ b. below_all (slice_cmp nat_cmp) e.0 es && b) (is_sorted-marked es)

  keys_by : (w : List ℕ → Bool) (e : List ℕ × X) (es : List (List ℕ × X)) (b : Bool) → map (λ x. x.0) (marked (cond b (e ∷ where_key (slice_cmp nat_cmp) w es) (where_key (slice_cmp nat_cmp) w es))) ≡ cond b (e.0 ∷ map (λ x. x.0) (marked (where_key (slice_cmp nat_cmp) w es))) (map (λ x. x.0) (marked (where_key (slice_cmp nat_cmp) w es)))
  unfolding marked
  keys_by w e es true = refl
  keys_by w e es false = refl

  keys-marked : (w : List ℕ → Bool) (es : List (List ℕ × X)) → map (λ x. x.0) (marked (where_key (slice_cmp nat_cmp) w es)) ≡ filter w (map (λ x. x.0) es)
  unfolding marked
  keys-marked w [] = refl
  keys-marked w (e ∷ es) = keys_by w e es (w e.0) ∙ ap (λ x. cond (w e.0) (e.0 ∷ x) x) (keys-marked w es)

  -- what a set has, from when it has it
  same_mark : (a : Option (Unit {0})) (o : Option X) (w : Bool) → (is_some a ≡ true → (is_some o ≡ true) × (w ≡ true)) → (is_some o ≡ true → w ≡ true → is_some a ≡ true) → a ≡ mark (cond w o None)
  same_mark None None true f g = refl
  same_mark None None false f g = refl
  same_mark None (Some x) true f g = let e = g refl refl in cc
  same_mark None (Some x) false f g = refl
  same_mark (Some u) None w f g = let e = (f refl).0 in cc
  same_mark (Some u) (Some x) true f g = refl
  same_mark (Some u) (Some x) false f g = let e = (f refl).1 in cc

-- where no folder waits, the paths that were found are the files that a crawl meets
pub searched_keys : (tree : Files) (paths : Paths) → IsShown paths [] → IsSearched tree paths [] → keys paths ≡ files_met tree
searched_keys tree paths shown h =
    let R = slice_cmp nat_cmp in
    let anti = slice_cmp-IsAntisymmetric nat_cmp-IsAntisymmetric in
    let is : (q : List ℕ) → find R q (entries paths) ≡ find R q (marked (where_key R is_met (entries tree))) =
    λ q.
    sym (get-entries paths q)
    ∙ same_mark (get paths q) (get tree q) (is_met q) (λ has. (h.sound q has, shown.met q has)) (λ has met. no_place_left paths q (h.whole q has met))
    ∙ ap (λ o. mark (cond (is_met q) o None)) (get-entries tree q)
    ∙ ap (mark) (sym (find-where_key R is_met q (λ x t. ap is_met (sym (anti q x t))) (entries tree)))
    ∙ sym (find-marked q (where_key R is_met (entries tree))) in
    ap (map (λ e. e.0)) (same_entries R nat_list_cmp_total anti (entries paths) (marked (where_key R is_met (entries tree))) (entries_sorted paths) (subst T (sym (is_sorted-marked (where_key R is_met (entries tree)))) (is_sorted-where_key R is_met (entries tree) (entries_sorted tree))) is)
    ∙ keys-marked is_met (entries tree)

-- what a crawl meets is there
pub met_there : (tree : Files) (paths : Paths) (q : List ℕ) → keys paths ≡ files_met tree → contains_key paths q ≡ true → contains_key tree q ≡ true
met_there tree paths q is has =
    let one : Contains (files_met tree) q = has_contains (files_met tree) q (ap (λ ks. list_any (bytes_eq q) ks) (sym is) ∙ sym (has_key q (keys paths)) ∙ sym (contains_key-keys paths q) ∙ has) in
    contains_key-keys tree q ∙ has_key q (keys tree) ∙ contains_has (keys tree) q (contains_filter is_met (keys tree) q one).0
