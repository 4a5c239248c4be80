-- Rows that have hosted, in their order.
use Rattle.std.proofs.Common.{◌≡◌, ℕ, true, false, cond, length, is_some, List, [], ◌∷◌, Option, Some, None, Result, Ok, Err, IsTrue, IsSome, IfSome, ◌↔◌, refl, sym, ◌∙◌, ap, subst}
use Rattle.std.specs.FinMap as map
use Rattle.std.specs.FinMap.{get-empty}
use Rattle.std.specs.BTreeMap.{BTreeMap}
use Rattle.std.specs.BTreeMap.Range.{IsInRange, IsEntryInRange, IsRangeOf, IsLeBy}
use Rattle.std.specs.List.{slice_get}
use Rattle.std.specs.List.Sorted.{IsStrictlySortedBy}
use Rattle.std.specs.Map.{lookup, keys_of}
use Rattle.std.specs.Ordering.{is_lt, is_gt, is_eq, ordering_reverse}
use Rattle.std.specs.Cmp.{eq_by_cmp_equiv}
use Rattle.std.specs.Cmp.Lexicographic.{nat_list_cmp_total}
use Rattle.std.specs.Result.{OnErr}
use Rattle.std.specs.declared.cmp.Ordering.{Ordering}
use Rattle.std.specs.declared.cmp.Ordering.TheVariants.{Less, Equal, Greater}
use Rattle.std.specs.declared.ops.Bound.{Bound}
use Rattle.std.specs.declared.ops.Bound.TheVariants.{Excluded, Unbounded}
use Rattle.std.proofs.lemmas.Option.{none-some}
use Rattle.row_keys.specs.RowOrder.{is_above}
use Rattle.node_store.specs.PathsTo.{path_cmp}
use Rattle.node_store.proofs.PathMaps.{lookup-map, entries-map, sorted-ordered}
use Rattle.hosted_memories.specs.declared.hosting.Hosting.{Hosting}
use Rattle.hosted_memories.specs.Hosted.{HostedTablets}
use Rattle.hosted_memories.specs.Rows.{HasNoRow, IsNextRow}

abbrev pub Listed : Type 0
Listed = List (List ℕ × Hosting)

pub on_err : {T E : Type 0} (r : Result T E) (P : Type 0) → P → OnErr r P
on_err (Ok x) P p = tt
on_err (Err e) P p = p

pub some_there : {V : Type 0} {v : V} {o : Option V} → Some v ≡ o → IsSome o
some_there is = ap is_some (sym is)

-- what a tree finds is what its map does
pub found_at : (row : List ℕ) (es : Listed) (hosted : HostedTablets) → map.from_entries es ≡ hosted → lookup (λ k. is_eq (path_cmp row k)) es ≡ map.get hosted row
found_at row es hosted is = lookup-map row es ∙ ap (λ (m : HostedTablets). map.get m row) is

-- from the first row past this one on
abbrev pub start_of : Option (List ℕ) → Bound (List ℕ)
start_of None = Unbounded
start_of (Some row) = Excluded row

less_of : (o : Ordering) → is_lt o ≡ true → o ≡ Less
less_of Less is = refl
less_of Equal is = cc
less_of Greater is = cc

not_above : (o : Ordering) → is_gt o ≡ false → is_lt (ordering_reverse o) ≡ false
not_above Less is = refl
not_above Equal is = refl
not_above Greater is = is

in_range : (low : Option (List ℕ)) (row : List ℕ) → IsTrue (is_above low row) → IsInRange path_cmp (start_of low) Unbounded row
in_range None row above = (tt, tt)
in_range (Some low) row above = (less_of (path_cmp low row) above, tt)

above_low : (low : Option (List ℕ)) (row : List ℕ) → IsInRange path_cmp (start_of low) Unbounded row → IsTrue (is_above low row)
above_low None row inside = refl
above_low (Some low) row inside = ap is_lt inside.0

-- ---- how many

pub length-map : (es : Listed) → IsStrictlySortedBy path_cmp (keys_of es) → length es ≡ length (map.entries (map.from_entries {R = path_cmp} es))
length-map es ordered = ap length (sym (entries-map es (sorted-ordered es ordered)))

pub none_there : (es : Listed) → (length es ≡ 0) ↔ (map.from_entries {R = path_cmp} es ≡ map.empty)
none_there [] = (λ none. refl, λ none. refl)
none_there (e ∷ es) = (
  λ none. cc,
  λ none.
      let there : map.get (map.from_entries {R = path_cmp} (e ∷ es)) e.0 ≡ Some e.1 = sym (lookup-map e.0 (e ∷ es)) ∙ ap (λ b. cond b (Some e.1) (lookup (λ k. is_eq (path_cmp e.0 k)) es)) ((eq_by_cmp_equiv nat_list_cmp_total).refl e.0) in
      absurd (none-some e.1 (sym (get-empty path_cmp e.0) ∙ ap (λ (m : HostedTablets). map.get m e.0) (sym none) ∙ there)),
)

-- ---- the next row

module _ (m : BTreeMap (List ℕ) Hosting) (hosted : HostedTablets) (is : map.from_entries m.entries ≡ hosted) (low : Option (List ℕ)) (start : Bound (List ℕ)) (from : start ≡ start_of low) (range : Listed) (of : IsRangeOf path_cmp start Unbounded m range) where
  found : (row : List ℕ) → lookup (λ k. is_eq (path_cmp row k)) m.entries ≡ map.get hosted row
  found row = found_at row m.entries hosted is

  ranges : IsRangeOf path_cmp (start_of low) Unbounded m range
  ranges = subst (λ s. IsRangeOf path_cmp s Unbounded m range) from of

  pub no_row : range ≡ [] → HasNoRow hosted low
  no_row none = λ row above. sym (found row) ∙ ranges.5 none row (in_range low row above)

  pub next_row : (row : List ℕ) (hosting : Hosting) (rest : Listed) → range ≡ (row, hosting) ∷ rest → IsNextRow hosted low row
  next_row row hosting rest first =
      let here = subst (λ (r : Listed). IfSome (slice_get r 0) (IsEntryInRange path_cmp (start_of low) Unbounded m)) first ranges.1 in
      record {
        there = ap is_some (sym (found row) ∙ here.1);
        above = above_low low row here.0;
        first = λ other there above.
            ap is_lt (nat_list_cmp_total.antisymm other row)
            ∙ not_above (path_cmp row other) (subst (λ (r : Listed). IfSome (slice_get r 0) (λ e. IsLeBy path_cmp e.0 other)) first (ranges.2 other (in_range low other above) (ap is_some (found other) ∙ there)));
      }
