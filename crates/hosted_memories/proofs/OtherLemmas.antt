-- Tablets on other servers.
use Rattle.std.proofs.Common.{◌≡◌, ℕ, Bool, true, false, not, cond, List, [], ◌∷◌, Some, None, refl, sym, ◌∙◌, ap}
use Rattle.std.specs.FinMap as map
use Rattle.std.specs.BTreeMap.{is_at}
use Rattle.std.specs.List.{AllByRecursion, filter}
use Rattle.std.specs.List.Sorted.{IsStrictlySortedBy}
use Rattle.std.specs.Map.{lookup, keys_of}
use Rattle.std.specs.Ordering.{is_eq}
use Rattle.std.specs.declared.cmp.Ordering.TheVariants.{Less}
use Rattle.std.proofs.lemmas.Map.Lookups.{exact_bytes}
use Rattle.std.proofs.lemmas.Map.Views.{tells_apart}
use Rattle.metadata_schema.specs.Bytes.{same}
use Rattle.node_store.specs.PathsTo.{path_cmp}
use Rattle.node_store.proofs.PathMaps.{lookup-map}
use Rattle.hosted_memories.specs.declared.hosting.Hosting.{Hosting}
use Rattle.hosted_memories.specs.Hosted.{HostedTablets, of_others}
use Rattle.hosted_memories.proofs.RowLemmas.{Listed}

-- it isn't on the server of this session
abbrev pub is_elsewhere : List ℕ → List ℕ × Hosting → Bool
is_elsewhere session entry = not (same entry.1.session session)

-- no key behind one that is below them all is that one
behind : (key : List ℕ) (es : Listed) → AllByRecursion (λ other. path_cmp key other ≡ Less) (keys_of es) → lookup (is_at (path_cmp key)) es ≡ None
behind key [] below = refl
behind key (e ∷ es) below = ap (λ o. cond (is_eq o) (Some e.1) (lookup (is_at (path_cmp key)) es)) below.0 ∙ behind key es below.1

-- what is found among the others
found_elsewhere : (session row : List ℕ) (es : Listed) → IsStrictlySortedBy path_cmp (keys_of es) → lookup (is_at (path_cmp row)) (filter (is_elsewhere session) es) ≡ of_others session (lookup (is_at (path_cmp row)) es)
unfolding IsStrictlySortedBy
found_elsewhere session row [] ordered = refl
found_elsewhere session row (e ∷ es) ordered = by (same e.1.session session) refl (is_at (path_cmp row) e.0) refl (found_elsewhere session row es ordered.1)
  where
    none_behind : is_at (path_cmp row) e.0 ≡ true → lookup (is_at (path_cmp row)) es ≡ None
    none_behind at = ap (λ key. lookup (is_at (path_cmp key)) es) (tells_apart exact_bytes row e.0 at) ∙ behind e.0 es ordered.0

    by : (here : Bool) → same e.1.session session ≡ here → (at : Bool) → is_at (path_cmp row) e.0 ≡ at → lookup (is_at (path_cmp row)) (filter (is_elsewhere session) es) ≡ of_others session (lookup (is_at (path_cmp row)) es)
        → lookup (is_at (path_cmp row)) (cond (not here) (e ∷ filter (is_elsewhere session) es) (filter (is_elsewhere session) es)) ≡ of_others session (cond at (Some e.1) (lookup (is_at (path_cmp row)) es))
    by true here true at more = more ∙ ap (of_others session) (none_behind at) ∙ sym (ap (λ b. cond b None (Some e.1)) here)
    by true here false at more = more
    by false here true at more = ap (λ b. cond b (Some e.1) (lookup (is_at (path_cmp row)) (filter (is_elsewhere session) es))) at ∙ sym (ap (λ b. cond b None (Some e.1)) here)
    by false here false at more = ap (λ b. cond b (Some e.1) (lookup (is_at (path_cmp row)) (filter (is_elsewhere session) es))) at ∙ more

-- the tablets on other servers are left
pub others_left : (session : List ℕ) (es kept : Listed) (hosted : HostedTablets) → IsStrictlySortedBy path_cmp (keys_of es) → kept ≡ filter (is_elsewhere session) es → map.from_entries es ≡ hosted
    → (row : List ℕ) → map.get (map.from_entries {R = path_cmp} kept) row ≡ of_others session (map.get hosted row)
others_left session es kept hosted ordered are is row =
    sym (lookup-map row kept) ∙ ap (lookup (is_at (path_cmp row))) are ∙ found_elsewhere session row es ordered ∙ ap (of_others session) (lookup-map row es ∙ ap (λ (m : HostedTablets). map.get m row) is)
