-- Entries that are put and taken out stand at their own rows.
use Rattle.std.proofs.Common.{◌≡◌, ℕ, Bool, true, false, cond, List, [], Option, Some, None, IfSome, Result, Ok, Err, refl, sym, ◌∙◌, ap, subst}
use Rattle.std.specs.FinMap as map
use Rattle.std.specs.FinMap.{get-empty}
use Rattle.std.specs.List.Sorted.{IsStrictlySortedBy}
use Rattle.std.specs.Option.{option_and_then}
use Rattle.std.specs.Ordering.{eq_by_cmp}
use Rattle.std.specs.Result.{OnErr}
use Rattle.std.specs.Cmp.{eq_by_cmp_equiv}
use Rattle.std.specs.Cmp.Lexicographic.{nat_list_cmp_total}
use Rattle.std.proofs.lemmas.Option.{none-some}
use Rattle.std.proofs.lemmas.Map.Lookups.{exact_bytes}
use Rattle.std.proofs.lemmas.Map.Views.{tells_apart}
use Rattle.row_keys.specs.MetadataRow.{metadata_row, IsMetadataRow}
use Rattle.row_keys.proofs.MetadataRowsLemmas.{one_to_one}
use Rattle.cell_merge.specs.Newest.{IsNewest}
use Rattle.cell_merge.proofs.Membership.{Contains-nil}
use Rattle.node_store.specs.PathsTo.{path_cmp, with_entry}
use Rattle.node_store.proofs.PathMaps.{same_paths, get-with_entry}
use Rattle.store_meaning.specs.Levels.{IsLevelOf}
use Rattle.state_reader.specs.declared.level.LevelKind.{LevelKind}
use Rattle.state_reader.specs.LevelRows.{IsOfKind}
use Rattle.level_index.specs.declared.entry.LevelEntry.{LevelEntry}
use Rattle.level_index.specs.declared.entry.LevelEntry.TheVariants.{Tablet, Candidate, Flag}
use Rattle.level_index.specs.Entries.{Entries, level_of, record_in, tablet_in, StandsAt, IsLevelMap}
use Rattle.level_index.proofs.EntryLemmas.{named_test}
use Rattle.level_index.proofs.LevelLemmas.{level_read}

pub on_err : {T E : Type 0} (r : Result T E) (P : Type 0) → P → OnErr r P
on_err (Ok x) P p = tt
on_err (Err e) P p = p

none_there : (row : List ℕ) (entry : LevelEntry) → map.get (map.empty {R = path_cmp}) row ≡ Some entry → ⊥
none_there row entry e = none-some entry (sym (get-empty path_cmp row) ∙ e)

pub own_empty : (kind : LevelKind) (es : List (List ℕ × LevelEntry)) → es ≡ [] → IsLevelMap kind (map.from_entries {R = path_cmp} es)
own_empty kind es none = subst (λ (l : List (List ℕ × LevelEntry)). IsLevelMap kind (map.from_entries {R = path_cmp} l)) (sym none) (record { own = λ row entry e. absurd (none_there row entry e) })

no_pairs : IsNewest [] []
unfolding IsStrictlySortedBy
no_pairs = record { rising = tt; each = λ pair. (λ there. absurd (Contains-nil pair there), λ e. absurd (none-some pair.value e)) }

empty_index : (kind : LevelKind) → IsLevelOf (IsOfKind kind) [] (level_of (record { kind = kind; entries = map.empty }))
empty_index kind = level_read (record { kind = kind; entries = map.empty }) (own_empty kind [] refl) [] [] no_pairs (record {
  stands = λ row entry e. absurd (none_there row entry e);
  told = λ row entry e. absurd (none_there row entry e);
  none = λ row e has. absurd (Contains-nil has.pair has.there);
})

pub empty_level : (kind : LevelKind) (es : List (List ℕ × LevelEntry)) → es ≡ [] → IsLevelOf (IsOfKind kind) [] (level_of (record { kind = kind; entries = map.from_entries es }))
empty_level kind es none = subst (λ (l : List (List ℕ × LevelEntry)). IsLevelOf (IsOfKind kind) [] (level_of (record { kind = kind; entries = map.from_entries l }))) (sym none) (empty_index kind)

-- what is found stands at its row
pub own_found : (kind : LevelKind) (entries : Entries) → IsLevelMap kind entries → (row : List ℕ) (o : Option LevelEntry) → o ≡ map.get entries row → IfSome o (StandsAt kind row)
own_found kind entries is row None e = tt
own_found kind entries is row (Some entry) e = is.own row entry (sym e)

pub own_with : (kind : LevelKind) (entries : Entries) → IsLevelMap kind entries → (row : List ℕ) (w : Option LevelEntry) → IfSome w (StandsAt kind row) → IsLevelMap kind (with_entry entries row w)
own_with kind entries is row w stands = record { own = λ other entry e. by other entry (eq_by_cmp path_cmp other row) refl (sym (get-with_entry entries row w other) ∙ e) }
  where
    by : (other : List ℕ) (entry : LevelEntry) (b : Bool) → eq_by_cmp path_cmp other row ≡ b → cond b w (map.get entries other) ≡ Some entry → StandsAt kind other entry
    by other entry true at e = subst (λ r. StandsAt kind r entry) (sym (tells_apart exact_bytes other row at)) (subst (λ o. IfSome o (StandsAt kind row)) e stands)
    by other entry false at e = is.own other entry e

-- what was there, put back, gives the entries that there were
pub put_back : (entries : Entries) (row : List ℕ) (w was : Option LevelEntry) → was ≡ map.get entries row → with_entry (with_entry entries row w) row was ≡ entries
put_back entries row w was at = same_paths (with_entry (with_entry entries row w) row was) entries (λ q.
    get-with_entry (with_entry entries row w) row was q ∙ ap (cond (eq_by_cmp path_cmp q row) was) (get-with_entry entries row w q) ∙ by q (eq_by_cmp path_cmp q row) refl)
  where
    by : (q : List ℕ) (b : Bool) → eq_by_cmp path_cmp q row ≡ b → cond b was (cond b w (map.get entries q)) ≡ map.get entries q
    by q true e = at ∙ ap (map.get entries) (sym (tells_apart exact_bytes q row e))
    by q false e = refl

-- what was put is there
pub there_with : (entries : Entries) (row : List ℕ) (entry : LevelEntry) → map.get (with_entry entries row (Some entry)) row ≡ Some entry
there_with entries row entry = get-with_entry entries row (Some entry) row ∙ ap (λ b. cond b (Some entry) (map.get entries row)) ((eq_by_cmp_equiv nat_list_cmp_total).refl row)

-- the record at a tablet's row is that of the tablet
pub record_there : (kind : LevelKind) (entries : Entries) → IsLevelMap kind entries → (row table : List ℕ) (end : Option (List ℕ)) → IsMetadataRow table end row
    → option_and_then tablet_in (map.get entries row) ≡ option_and_then (record_in table end) (map.get entries (metadata_row table end))
record_there kind entries is row table end named = by (map.get entries row) refl ∙ ap (λ r. option_and_then (record_in table end) (map.get entries r)) named.is
  where
    by : (o : Option LevelEntry) → map.get entries row ≡ o → option_and_then tablet_in o ≡ option_and_then (record_in table end) o
    by None e = refl
    by (Some (Tablet t)) e =
        let own = is.own row (Tablet t) e in
        let names = one_to_one table t.table end t.end named.name own.named.name (sym named.is ∙ own.named.is) in
        ap (λ b. cond b (Some t) None) (sym (named_test table end t names.0 names.1))
    by (Some (Candidate path)) e = refl
    by (Some (Flag flag)) e = refl
