-- The files that nodes name.
use Rattle.std.proofs.Common.{◌≡◌, ◌↔◌, ◌⊎◌, inl, inr, ℕ, ◌+◌, ◌<◌, ◌≤◌, get_or, true, nat_eq, codes, length, drop, take, List, [], ◌∷◌, ◌++◌, map as mapped, Contains, Option, Some, None, is_some, refl, sym, ◌∙◌, ap, subst, take-append-drop}
use Rattle.std.specs.FinMap as map
use Rattle.std.specs.FinMap.{contains_key-keys}
use Rattle.std.specs.Cmp.{eq_by_cmp_equiv}
use Rattle.std.specs.Cmp.Lexicographic.{nat_list_cmp_total, same_text}
use Rattle.std.specs.List.{starts_with}
use Rattle.std.specs.Option.{MatchOption}
use Rattle.std.proofs.lemmas.Bool.{and_parts}
use Rattle.std.proofs.lemmas.List.{take_more, take_all}
use Rattle.std.proofs.lemmas.List.Elements.{Contains-append_left, Contains-push, Contains-push_cases}
use Rattle.std.proofs.lemmas.Map.Lookups.{exact_bytes}
use Rattle.std.proofs.lemmas.Map.Views.{list_any-from_Contains, Contains-from_any, tells_apart}
use Rattle.level_rows.proofs.Membership.{Contains-nil, Contains-filter, Contains-in_filter}
use Rattle.row_keys.specs.Forms.{IsPath}
use Rattle.metadata_schema.specs.Paths.{IsFilePath}
use Rattle.metadata_schema.proofs.PathLemmas.{path_fits}
use Rattle.node_store.specs.Children.{is_single_name, is_child, children_of}
use Rattle.node_store.specs.Nodes.{Nodes}
use Rattle.node_store.specs.declared.changes.Node.{Node}
use Rattle.store_layout.specs.Names.{file_of}
use Rattle.level_cache.specs.Marks.{path_byte, IsCandidateNode, IsListedFile}
use Rattle.level_cache.proofs.FreeLemmas.{path_back, name_back, file_single}

-- ---- one node

-- what a child of `/gc` is
child_is : (node : List ℕ) → is_child (codes "/gc") node ≡ true → node ≡ codes "/gc/" ++ drop 4 node
child_is node is =
    let begins : starts_with nat_eq node (codes "/gc/") ≡ true = (and_parts (starts_with nat_eq node (codes "/gc/")) (is_single_name (drop 4 node)) is).0 in
    sym (ap (λ l. l ++ drop 4 node) (same_text (codes "/gc/") (take 4 node) (sym begins)) ∙ take-append-drop 4 node)

child_name : (node : List ℕ) → is_child (codes "/gc") node ≡ true → is_single_name (drop 4 node) ≡ true
child_name node is = (and_parts (starts_with nat_eq node (codes "/gc/")) (is_single_name (drop 4 node)) is).1

-- the name's path has this file, so that the node is its candidate's
pub node_of : (node path : List ℕ) → is_child (codes "/gc") node ≡ true → path ≡ mapped path_byte (drop 4 node) → IsFilePath path → IsCandidateNode node path
node_of node path child is form = record {
  form = form;
  is = child_is node child ∙ ap (λ l. codes "/gc/" ++ l) (sym (ap file_of is ∙ name_back (drop 4 node) (child_name node child)));
}

-- no other path has it
pub path_of : (node path : List ℕ) → IsCandidateNode node path → mapped path_byte (drop 4 node) ≡ path
path_of node path named = ap (λ l. mapped path_byte (drop 4 l)) named.is ∙ path_back path named.form

-- the path that its name gives, where that is a file's
pub found_path : (node : List ℕ) → is_child (codes "/gc") node ≡ true → (found : Option (List ℕ)) (bytes : List ℕ) → bytes ≡ mapped path_byte (drop 4 node) → IsFilePath bytes → MatchOption found (IsPath bytes → ⊥) (λ path. path ≡ bytes)
    → MatchOption found ((path : List ℕ) → IsCandidateNode node path → ⊥) (IsCandidateNode node)
found_path node child None bytes is form none = absurd (none (path_fits bytes form))
found_path node child (Some path) bytes is form same = node_of node path child (same ∙ is) (subst IsFilePath (sym same) form)

-- ---- some nodes

-- one of these nodes is the candidate's of this path
pub record IsNamedIn (nodes : List (List ℕ)) (path : List ℕ) : Type 0 where
  pub node : List ℕ
  pub there : Contains nodes node
  pub is : IsCandidateNode node path

pub none_named : (path : List ℕ) → IsNamedIn [] path → ⊥
none_named path named = Contains-nil named.node named.there

module _ (front : List (List ℕ)) (node : List ℕ) where
  pub named_still : ((path : List ℕ) → IsCandidateNode node path → ⊥) → (path : List ℕ) → IsNamedIn (front ++ node ∷ []) path ↔ IsNamedIn front path
  named_still none path = (
    λ named. elim (Contains-push_cases front node named.node named.there) [
      | inl before ↦ record { node = named.node; there = before; is = named.is }
      | inr same ↦ absurd (none path (subst (λ n. IsCandidateNode n path) (sym same) named.is))
    ],
    λ named. record { node = named.node; there = Contains-append_left front (node ∷ []) named.node named.there; is = named.is },
  )

  pub named_more : (own : List ℕ) → IsCandidateNode node own → (path : List ℕ) → IsNamedIn (front ++ node ∷ []) path ↔ (IsNamedIn front path ⊎ (own ≡ path))
  named_more own is path = (
    λ named. elim (Contains-push_cases front node named.node named.there) [
      | inl before ↦ inl (record { node = named.node; there = before; is = named.is })
      | inr same ↦ inr (sym (path_of node own is) ∙ path_of node path (subst (λ n. IsCandidateNode n path) (sym same) named.is))
    ],
    λ either. elim either [
      | inl named ↦ record { node = named.node; there = Contains-append_left front (node ∷ []) named.node named.there; is = named.is }
      | inr same ↦ record { node = node; there = Contains-push front node; is = subst (IsCandidateNode node) same is }
    ],
  )

-- the nodes that have been looked at so far, and one more
module _ (items : List (List ℕ)) (i : ℕ) (node : List ℕ) (lt : i < length items) (at : node ≡ get_or items i node) (paths : List (List ℕ)) (so_far : (path : List ℕ) → Contains paths path ↔ IsNamedIn (take i items) path) where
  next : take i items ++ node ∷ [] ≡ take (i + 1) items
  next = sym (take_more items i node lt ∙ ap (λ n. take i items ++ n ∷ []) (sym at))

  pub step_none : ((path : List ℕ) → IsCandidateNode node path → ⊥) → (path : List ℕ) → Contains paths path ↔ IsNamedIn (take (i + 1) items) path
  step_none none path =
      let still = named_still (take i items) node none path in
      (λ there. subst (λ l. IsNamedIn l path) next (still.1 ((so_far path).0 there)), λ named. (so_far path).1 (still.0 (subst (λ l. IsNamedIn l path) (sym next) named)))

  pub step_some : (own : List ℕ) → IsCandidateNode node own → (after : List (List ℕ)) → after ≡ paths ++ own ∷ [] → (path : List ℕ) → Contains after path ↔ IsNamedIn (take (i + 1) items) path
  step_some own is after pushed path =
      let more = named_more (take i items) node own is path in (
        λ there. subst (λ l. IsNamedIn l path) next (more.1 (elim (Contains-push_cases paths own path (subst (λ l. Contains l path) pushed there)) [ inl before ↦ inl ((so_far path).0 before) | inr same ↦ inr same ])),
        λ named. subst (λ l. Contains l path) (sym pushed) (elim (more.0 (subst (λ l. IsNamedIn l path) (sym next) named)) [
          | inl before ↦ Contains-append_left paths (own ∷ []) path ((so_far path).1 before)
          | inr same ↦ subst (Contains (paths ++ own ∷ [])) same (Contains-push paths own)
        ]),
      )

-- ---- all nodes

key_there : (nodes : Nodes) (path : List ℕ) → Contains (map.keys nodes) path → (node : Node) × (map.get nodes path ≡ Some node)
key_there nodes path among = at (map.get nodes path) refl
  where
    found : is_some (map.get nodes path) ≡ true
    found = contains_key-keys nodes path ∙ list_any-from_Contains (eq_by_cmp_equiv nat_list_cmp_total) path (map.keys nodes) among

    at : (o : Option Node) → map.get nodes path ≡ o → (node : Node) × (map.get nodes path ≡ Some node)
    at None is = let some : is_some (map.get nodes path) ≡ true = found in cc
    at (Some node) is = (node, is)

key_among : (nodes : Nodes) (path : List ℕ) (node : Node) → map.get nodes path ≡ Some node → Contains (map.keys nodes) path
key_among nodes path node is = Contains-from_any (tells_apart exact_bytes) path (map.keys nodes) (sym (contains_key-keys nodes path) ∙ ap is_some is)

module _ (nodes : Nodes) where
  abbrev Children : List (List ℕ)
  Children = children_of (codes "/gc") (map.keys nodes)

  pub child_there : (node : List ℕ) → Contains Children node → is_child (codes "/gc") node ≡ true
  child_there node there = (Contains-filter (is_child (codes "/gc")) (map.keys nodes) node there).1

  pub listed_is : (path : List ℕ) → IsNamedIn Children path ↔ IsListedFile nodes path
  listed_is path = (
    λ named. (let at = key_there nodes named.node (Contains-filter (is_child (codes "/gc")) (map.keys nodes) named.node named.there).0 in
        record { form = named.is.form; listed = record { node = at.0; there = ap (map.get nodes) (sym named.is.is) ∙ at.1 } }),
    λ listed. record {
      node = codes "/gc/" ++ file_of path;
      there = Contains-in_filter (is_child (codes "/gc")) (map.keys nodes) (codes "/gc/" ++ file_of path) (key_among nodes (codes "/gc/" ++ file_of path) listed.listed.node listed.listed.there) (file_single path listed.form);
      is = record { form = listed.form; is = refl };
    },
  )

  -- all nodes have been looked at
  pub listed_all : (items : List (List ℕ)) (i : ℕ) → items ≡ Children → length items ≤ i → (paths : List (List ℕ)) → ((path : List ℕ) → Contains paths path ↔ IsNamedIn (take i items) path) → (path : List ℕ) → Contains paths path ↔ IsListedFile nodes path
  listed_all items i are all paths so_far path =
      let whole : take i items ≡ Children = take_all i items all ∙ are in
      let is = listed_is path in
      (λ there. is.0 (subst (λ l. IsNamedIn l path) whole ((so_far path).0 there)), λ listed. (so_far path).1 (subst (λ l. IsNamedIn l path) (sym whole) (is.1 listed)))
