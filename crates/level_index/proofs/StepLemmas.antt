-- One row more of pairs that are gone through.
use Rattle.std.proofs.Common.{◌≡◌, ◌≢◌, inl, inr, ℕ, ◌<◌, length, drop, arith, length-append, Bool, true, false, cond, List, [], ◌∷◌, ◌++◌, map as mapped, Contains, Some, None, Ordering, Less, Equal, Greater, refl, sym, ◌∙◌, ap, subst, append_assoc}
use Rattle.std.specs.Prelude.{slice_get}
use Rattle.std.specs.FinMap as map
use Rattle.std.specs.FinMap.{get-empty}
use Rattle.std.specs.List.{AllByRecursion}
use Rattle.std.specs.List.Sorted.{IsStrictlySortedBy}
use Rattle.std.specs.Ordering.{eq_by_cmp, ordering_then, is_lt}
use Rattle.std.specs.Cmp.{eq_by_cmp_equiv}
use Rattle.std.specs.Cmp.Lexicographic.{nat_list_cmp_total}
use Rattle.std.proofs.lemmas.Bool.{false≢true}
use Rattle.std.proofs.lemmas.Option.{same_Some, none-some}
use Rattle.std.proofs.lemmas.List.{append-nil}
use Rattle.std.proofs.lemmas.List.Elements.{Contains-append_left, Contains-append_right, Contains-append_cases}
use Rattle.std.proofs.lemmas.Map.Lookups.{exact_bytes}
use Rattle.std.proofs.lemmas.Map.Views.{tells_apart}
use Rattle.row_keys.specs.declared.key.Key.{Key}
use Rattle.row_keys.specs.Keys.{key_cmp}
use Rattle.row_keys.specs.RowOrder.{bytes_cmp, is_below}
use Rattle.row_keys.proofs.RowOrderLemmas.{is_below-itself, is_below-trans}
use Rattle.cell_merge.specs.declared.cell.Cell.{Cell}
use Rattle.cell_merge.specs.declared.cell.Pair.{Pair}
use Rattle.cell_merge.specs.Newest.{IsNewest}
use Rattle.cell_merge.proofs.Membership.{Contains-nil, Contains-here, Contains-cons_cases}
use Rattle.cell_merge.proofs.RisingLemmas.{above_head, rising_tail}
use Rattle.node_store.specs.PathsTo.{path_cmp}
use Rattle.node_store.proofs.PathMaps.{get-with_entry}
use Rattle.store_meaning.specs.Levels.{SpellsRow}
use Rattle.state_reader.specs.declared.level.LevelKind.{LevelKind}
use Rattle.state_reader.specs.declared.level.LevelFault.{LevelFault}
use Rattle.state_reader.specs.LevelRows.{LevelCause}
use Rattle.state_reader.specs.Columns.{HasPair, AreInOrder}
use Rattle.state_reader.proofs.ColumnLemmas.{spells_in}
use Rattle.level_index.specs.declared.entry.LevelEntry.{LevelEntry}
use Rattle.level_index.specs.Entries.{Entries, LevelMap, StandsAt, IsRowOf, entry_columns}
use Rattle.level_index.specs.RowReads.{IsEntryIn, IsFirstRow, IsReadTo}
use Rattle.level_index.proofs.WithinLemmas.{within, spells-within, AreRowPairs, newest-within, cause-within}
use Rattle.level_index.proofs.ReadLemmas.{IsReading, begun, group_order, group_has, group_pairs, done_more, read_none, read_entry}

head_split : (rest : List Pair) (first : Pair) → Some first ≡ slice_get rest 0 → rest ≡ first ∷ drop 1 rest
head_split [] first e = absurd (none-some first (sym e))
head_split (p ∷ ps) first e = ap (λ q. q ∷ ps) (sym (same_Some first p e))

pub begun_new : (kind : LevelKind) (pairs : List Pair) (index : LevelMap) → index ≡ record { kind = kind; entries = map.empty } → (index.kind ≡ kind) × IsReading kind pairs pairs index.entries
begun_new kind pairs index is = (
  ap (λ (m : LevelMap). m.kind) is,
  subst (λ (m : LevelMap). IsReading kind pairs pairs m.entries) (sym is) (begun kind pairs pairs map.empty refl (λ row entry e. none-some entry (sym (get-empty path_cmp row) ∙ e))),
)

module _ (kind : LevelKind) (pairs : List Pair) (up : AreInOrder pairs) (rest : List Pair) (entries : Entries) (reading : IsReading kind pairs rest entries) (first : Pair) (at : Some first ≡ slice_get rest 0) (group more : List Pair) (part : IsFirstRow first.key.row rest group more) where
  begins : rest ≡ first ∷ drop 1 rest
  begins = head_split rest first at

  pub step_order : AreInOrder group
  step_order = group_order kind pairs up reading.done rest reading.is first (drop 1 rest) group more begins part

  pub step_cause : (fault : LevelFault) → ((cells : List Cell) → IsNewest cells group → HasPair group first.key.row → LevelCause kind cells fault) → (cells : List Cell) → IsNewest cells pairs → LevelCause kind cells fault
  step_cause fault why cells newest =
      cause-within kind first.key.row cells fault
      (why (within first.key.row cells)
      (newest-within first.key.row cells pairs group newest (group_pairs kind pairs up reading.done rest reading.is first (drop 1 rest) group more begins part))
      (group_has kind pairs up reading.done rest reading.is first (drop 1 rest) group more begins part))

  pub step_none : (IsRowOf kind first.key.row → ⊥) → IsReading kind pairs more entries
  step_none none = record {
    done = reading.done ++ group;
    is = done_more kind pairs up reading.done rest reading.is first (drop 1 rest) group more begins part;
    read = λ cells newest. read_none kind pairs up reading.done rest reading.is first (drop 1 rest) group more begins part entries none cells (reading.read cells newest);
  }

  pub step_entry : (entry : LevelEntry) → IsEntryIn kind group first.key.row entry → IsReading kind pairs more (map.insert entries first.key.row entry)
  step_entry entry found = record {
    done = reading.done ++ group;
    is = done_more kind pairs up reading.done rest reading.is first (drop 1 rest) group more begins part;
    read = λ cells newest. read_entry kind pairs up reading.done rest reading.is first (drop 1 rest) group more begins part entries entry found cells newest (reading.read cells newest);
  }

shorter : (group more rest : List Pair) → rest ≡ group ++ more → (group ≡ [] → ⊥) → length more < length rest
shorter [] more rest e some = absurd (some refl)
shorter (g ∷ gs) more rest e some = (let longer : length rest ≡ length (g ∷ (gs ++ more)) = ap length e in let parts = length-append gs more in omega (arith, longer, parts))

pub step_smaller : (rest : List Pair) (first : Pair) → Some first ≡ slice_get rest 0 → (group more : List Pair) → IsFirstRow first.key.row rest group more → length more < length rest
step_smaller rest first at group more part = shorter group more rest part.parts (λ none.
    part.next first (drop 1 rest) (sym (ap (λ (l : List Pair). l ++ more) none) ∙ sym part.parts ∙ head_split rest first at) refl)
