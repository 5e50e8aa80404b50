-- The files that were found are those that the folder's lists name.
use Rattle.std.proofs.Common.{inl, inr, ◌⊎◌, ◌∙◌, ℕ, List, [], ◌∷◌, ◌++◌, map, sym, ap, subst}
use Rattle.std.specs.List.{Contains, flat_map}
use Rattle.std.specs.FinMap.{contains_key, empty, get-empty}
use Rattle.std.specs.Ordering.{nat_cmp}
use Rattle.std.specs.Cmp.Lexicographic.{slice_cmp}
use Rattle.std.proofs.lemmas.Bool.{false≢true}
use Rattle.std.proofs.lemmas.List.Elements.{Contains-append_cases, Contains-append_left, Contains-append_right, Contains-push, Contains-push_cases}
use Rattle.std.specs.Option.{is_some}
use Rattle.mt_containers.proofs.Members.{contains_cases, contains_head, contains_none, contains_tail}
use Rattle.mt_io.specs.declared.folder.Named.{Named}
use Rattle.mt_files.specs.PathSets.{Paths, with_paths}
use Rattle.mt_files.specs.Search.{files_in, folders_in}
use Rattle.mt_files.specs.Listings.{IsListed, Listing, paths_of, places_of}
use Rattle.mt_files.proofs.PathSets.{set_cases, set_more, set_old}

module _ (lists : List ℕ → List Named → Type 0) where
  -- at first the root waits, and nothing was found
  pub listed_start : IsListed lists (contains_key (empty {X = Unit {0}} {R = slice_cmp nat_cmp})) ((47 ∷ []) ∷ [])
  listed_start = record {
    listings = [];
    answered = λ l h. absurd (contains_none l h);
    listed = λ place. (λ h. inr h, elim [ inl n ↦ absurd (contains_none place n) | inr w ↦ w ]);
    named = λ path. (λ h. absurd (false≢true (ap is_some (sym (get-empty {X = Unit {0}} (slice_cmp nat_cmp) path)) ∙ h)), λ h. absurd (contains_none path h));
  }

  module _ (found : Paths) (waiting : List (List ℕ)) (place : List ℕ) (names : List Named) (answer : lists place names) (h : IsListed lists (contains_key found) (waiting ++ place ∷ [])) where
    abbrev one : Listing
    one = record { place = place; names = names }

    abbrev more : List Listing
    more = one ∷ h.listings

    -- a place that is named was named before, or is a folder of this one
    place_cases : (q : List ℕ) → Contains (places_of more) q → Contains (folders_in place names) q ⊎ Contains (places_of h.listings) q
    place_cases q c =
        elim (contains_cases (47 ∷ []) q (folders_in place names ++ flat_map (λ l. folders_in l.place l.names) h.listings) c) [
          | inl root ↦ inr (subst (Contains (places_of h.listings)) root (contains_head (47 ∷ []) (flat_map (λ l. folders_in l.place l.names) h.listings)))
          | inr rest ↦ elim (Contains-append_cases (folders_in place names) (flat_map (λ l. folders_in l.place l.names) h.listings) q rest) [
            | inl new ↦ inl new
            | inr old ↦ inr (contains_tail (47 ∷ []) q (flat_map (λ l. folders_in l.place l.names) h.listings) old)
          ]
        ]

    place_new : (q : List ℕ) → Contains (folders_in place names) q → Contains (places_of more) q
    place_new q c = contains_tail (47 ∷ []) q (folders_in place names ++ flat_map (λ l. folders_in l.place l.names) h.listings) (Contains-append_left (folders_in place names) (flat_map (λ l. folders_in l.place l.names) h.listings) q c)

    place_old : (q : List ℕ) → Contains (places_of h.listings) q → Contains (places_of more) q
    place_old q c =
        elim (contains_cases (47 ∷ []) q (flat_map (λ l. folders_in l.place l.names) h.listings) c) [
          | inl root ↦ subst (Contains (places_of more)) root (contains_head (47 ∷ []) (folders_in place names ++ flat_map (λ l. folders_in l.place l.names) h.listings))
          | inr old ↦ contains_tail (47 ∷ []) q (folders_in place names ++ flat_map (λ l. folders_in l.place l.names) h.listings) (Contains-append_right (folders_in place names) (flat_map (λ l. folders_in l.place l.names) h.listings) q old)
        ]

    -- what was listed or waits, once this folder is listed
    abbrev IsAhead : List ℕ → Type 0
    IsAhead q = Contains (map (λ l. l.place) more) q ⊎ Contains (waiting ++ folders_in place names) q

    ahead_old : (q : List ℕ) → (Contains (map (λ l. l.place) h.listings) q ⊎ Contains (waiting ++ place ∷ []) q) → IsAhead q
    ahead_old q (inl done) = inl (contains_tail place q (map (λ l. l.place) h.listings) done)
    ahead_old q (inr w) = elim (Contains-push_cases waiting place q w) [
      | inl still ↦ inr (Contains-append_left waiting (folders_in place names) q still)
      | inr is ↦ inl (subst (Contains (map (λ l. l.place) more)) is (contains_head place (map (λ l. l.place) h.listings)))
    ]

    here : Contains (places_of h.listings) place
    here = (h.listed place).1 (inr (Contains-push waiting place))

    pub listed_step : IsListed lists (contains_key (with_paths found (files_in place names))) (waiting ++ folders_in place names)
    listed_step = record {
      listings = more;
      answered = λ l c. elim (contains_cases one l h.listings c) [ inl is ↦ subst (λ (x : Listing). lists x.place x.names) is answer | inr old ↦ h.answered l old ];
      listed = λ q. (
        λ c. elim (place_cases q c) [
          | inl new ↦ inr (Contains-append_right waiting (folders_in place names) q new)
          | inr old ↦ ahead_old q ((h.listed q).0 old)
        ],
        elim [
          | inl done ↦ elim (contains_cases place q (map (λ l. l.place) h.listings) done) [
            | inl is ↦ place_old q (subst (Contains (places_of h.listings)) is here)
            | inr old ↦ place_old q ((h.listed q).1 (inl old))
          ]
          | inr w ↦ elim (Contains-append_cases waiting (folders_in place names) q w) [
            | inl still ↦ place_old q ((h.listed q).1 (inr (Contains-append_left waiting (place ∷ []) q still)))
            | inr new ↦ place_new q new
          ]
        ],
      );
      named = λ path. (
        λ has. elim (set_cases found (files_in place names) path has) [
          | inl new ↦ Contains-append_left (files_in place names) (paths_of h.listings) path new
          | inr old ↦ Contains-append_right (files_in place names) (paths_of h.listings) path ((h.named path).0 old)
        ],
        λ c. elim (Contains-append_cases (files_in place names) (paths_of h.listings) path c) [
          | inl new ↦ set_more found (files_in place names) path new
          | inr old ↦ set_old found (files_in place names) path ((h.named path).1 old)
        ],
      );
    }
