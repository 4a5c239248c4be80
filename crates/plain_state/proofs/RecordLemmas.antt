-- The records of a reading as lists, and what they name.
use Rattle.std.proofs.Common.{◌≡◌, inl, inr, ⊎_elim, ℕ, true, List, [], ◌∷◌, ◌++◌, Contains, Option, Some, None, refl, sym, ◌∙◌, ap, subst}
use Rattle.std.specs.Prelude.{find}
use Rattle.std.specs.Option.{option_map}
use Rattle.std.proofs.lemmas.Option.{none-some, same_Some}
use Rattle.std.proofs.lemmas.List.Elements.{Contains-append_left, Contains-append_right, Contains-append_cases, Contains-push}
use Rattle.metadata_schema.specs.declared.tablet.TabletRecord.{TabletRecord}
use Rattle.metadata_schema.specs.Bytes.{same}
use Rattle.level_rows.specs.Chain.{rows_of}
use Rattle.level_rows.proofs.EndLemmas.{same-true, same-refl}
use Rattle.level_rows.proofs.LookupLemmas.{find-there, find-some, row-there}
use Rattle.level_rows.proofs.Membership.{Contains-nil}
use Rattle.store_meaning.specs.Ground.{Ground}
use Rattle.store_meaning.specs.Levels.{Flag, Reading}
use Rattle.store_meaning.specs.InUse.{IsOfLevel, IsRecord, IsFlagged, IsFileInUse}
use Rattle.store_meaning.specs.Readable.{IsTold}
use Rattle.state_reader.specs.declared.level.LevelRows.{LevelRows}
use Rattle.state_reader.specs.declared.level.LoadFlag.{LoadFlag}
use Rattle.state_reader.specs.LevelRows.{level_of, flag_of, flag_at}
use Rattle.state_reader.specs.Lacks.{IsAllTold}
use Rattle.state_reader.proofs.RowLists.{last_is}
use Rattle.plain_state.specs.Records.{AreOfLevel, AreRecords, AreAllTold, AreFlagsTold, LacksFlag}
use Rattle.plain_state.specs.Read.{AreFilesThere}
use Rattle.plain_state.proofs.ListLemmas.{some_of}

-- ---- records that count

-- the records that are found by the names of those in front
pub record AreFound (all front found : List TabletRecord) : Type 0 where
  pub from : (tablet : TabletRecord) → Contains found tablet → (table : List ℕ) × (end : Option (List ℕ)) × (rows_of table all end ≡ Some tablet)
  pub each : (one tablet : TabletRecord) → Contains front one → rows_of one.table all one.end ≡ Some tablet → Contains found tablet

pub found_none : (all : List TabletRecord) → AreFound all [] []
found_none all = record { from = λ tablet there. absurd (Contains-nil tablet there); each = λ one tablet there e. absurd (Contains-nil one there) }

pub found_more : (all front found : List TabletRecord) (one first : TabletRecord) → AreFound all front found → rows_of one.table all one.end ≡ Some first → AreFound all (front ++ one ∷ []) (found ++ first ∷ [])
found_more all front found one first are e = record {
  from = λ tablet there. (elim (Contains-append_cases found (first ∷ []) tablet there) [
    | inl front ↦ are.from tablet front
    | inr last ↦ (one.table, one.end, e ∙ ap Some (last_is first tablet last))
  ]);
  each = λ other tablet there is. (elim (Contains-append_cases front (one ∷ []) other there) [
    | inl before ↦ Contains-append_left found (first ∷ []) tablet (are.each other tablet before is)
    | inr last ↦ (let same : first ≡ tablet = same_Some first tablet (sym e ∙ ap (λ (t : TabletRecord). rows_of t.table all t.end) (last_is one other last) ∙ is) in
        subst (Contains (found ++ first ∷ [])) same (Contains-push found first))
  ]);
}

pub found_less : (all front found : List TabletRecord) (one : TabletRecord) → AreFound all front found → rows_of one.table all one.end ≡ None → AreFound all (front ++ one ∷ []) found
found_less all front found one are e = record {
  from = are.from;
  each = λ other tablet there is. (elim (Contains-append_cases front (one ∷ []) other there) [
    | inl before ↦ are.each other tablet before is
    | inr last ↦ absurd (none-some tablet (sym e ∙ ap (λ (t : TabletRecord). rows_of t.table all t.end) (last_is one other last) ∙ is))
  ]);
}

pub found_all : (rows : LevelRows) (found : List TabletRecord) → AreFound rows.records rows.records found → AreOfLevel (level_of rows) found
found_all rows found are = record { each = λ tablet. (to tablet, back tablet) }
  where
    to : (tablet : TabletRecord) → Contains found tablet → IsOfLevel (level_of rows) tablet
    to tablet there = let f = are.from tablet there in record { table = f.0; end = f.1; there = f.2 }

    back : (tablet : TabletRecord) → IsOfLevel (level_of rows) tablet → Contains found tablet
    back tablet is =
        let row = row-there is.table rows.records is.end tablet is.there in
        are.each tablet tablet row.0 ((λ i. rows_of (row.1 i) rows.records (row.2 i)) ∙ is.there)

-- the records of both levels, and that of the root tablet
pub records_are : (reading : Reading) (metadata users : List TabletRecord) → AreOfLevel reading.metadata metadata → AreOfLevel reading.users users → AreRecords reading ((metadata ++ users) ++ reading.root ∷ [])
records_are reading metadata users low high = record { each = λ tablet. (to tablet, back tablet) }
  where
    all : List TabletRecord
    all = (metadata ++ users) ++ reading.root ∷ []

    levels : (tablet : TabletRecord) → Contains (metadata ++ users) tablet → IsRecord reading tablet
    levels tablet there = elim (Contains-append_cases metadata users tablet there) [
      | inl one ↦ inr (inl ((low.each tablet).0 one))
      | inr other ↦ inr (inr ((high.each tablet).0 other))
    ]

    to : (tablet : TabletRecord) → Contains ((metadata ++ users) ++ reading.root ∷ []) tablet → IsRecord reading tablet
    to tablet there = elim (Contains-append_cases (metadata ++ users) (reading.root ∷ []) tablet there) [
      | inl front ↦ levels tablet front
      | inr last ↦ inl (last_is reading.root tablet last)
    ]

    back : (tablet : TabletRecord) → IsRecord reading tablet → Contains ((metadata ++ users) ++ reading.root ∷ []) tablet
    back tablet (inl root) = subst (Contains ((metadata ++ users) ++ reading.root ∷ [])) root (Contains-push (metadata ++ users) reading.root)
    back tablet (inr (inl one)) = Contains-append_left (metadata ++ users) (reading.root ∷ []) tablet (Contains-append_left metadata users tablet ((low.each tablet).1 one))
    back tablet (inr (inr other)) = Contains-append_left (metadata ++ users) (reading.root ∷ []) tablet (Contains-append_right metadata users tablet ((high.each tablet).1 other))

-- ---- one record more

pub all_told_none : (known : Ground) → AreAllTold known []
all_told_none known = record { each = λ tablet there. absurd (Contains-nil tablet there) }

pub all_told_more : (known : Ground) (records : List TabletRecord) (tablet : TabletRecord) → AreAllTold known records → IsAllTold known tablet → AreAllTold known (records ++ tablet ∷ [])
all_told_more known records tablet told here = record {
  each = λ other there. (elim (Contains-append_cases records (tablet ∷ []) other there) [
    | inl front ↦ told.each other front
    | inr last ↦ subst (IsAllTold known) (last_is tablet other last) here
  ]);
}

-- ---- flags

-- the path of a flag among these is flagged
pub is_flagged : (known : Ground) (rows : LevelRows) (path : List ℕ) → LacksFlag known rows.flags path → IsFlagged (level_of rows) path
is_flagged known rows path lacks =
    let found = some_of (find (λ (flag : LoadFlag). same flag.path path) rows.flags) (find-some (λ (flag : LoadFlag). same flag.path path) rows.flags lacks.flag lacks.there (ap (λ p. same p path) lacks.path_is ∙ same-refl path)) in
    record { flag = flag_of found.0; is = ap (option_map flag_of) found.1 }

pub flag_told : (known : Ground) (rows : LevelRows) (path : List ℕ) → AreFlagsTold known rows.flags → IsFlagged (level_of rows) path → IsTold (known.cells_of path)
flag_told known rows path told flagged = by (find (λ (flag : LoadFlag). same flag.path path) rows.flags) refl flagged.is
  where
    by : (o : Option LoadFlag) → find (λ (flag : LoadFlag). same flag.path path) rows.flags ≡ o → option_map flag_of o ≡ Some flagged.flag → IsTold (known.cells_of path)
    by None e is = absurd (none-some flagged.flag is)
    by (Some flag) e is =
        let there = find-there (λ (f : LoadFlag). same f.path path) rows.flags flag e in
        subst (λ p. IsTold (known.cells_of p)) (same-true flag.path path there.1) (told.each flag there.0)

-- ---- files in use

pub files_there : (known : Ground) (reading : Reading) (records : List TabletRecord) → AreRecords reading records → AreAllTold known records → ((path : List ℕ) → IsFlagged reading.metadata path → IsTold (known.cells_of path))
    → ((path : List ℕ) → IsFlagged reading.users path → IsTold (known.cells_of path)) → AreFilesThere known reading
files_there known reading records are told low high = record { each = by }
  where
    by : (path : List ℕ) → IsFileInUse reading path → IsTold (known.cells_of path)
    by path (inl named) = subst (λ p. IsTold (known.cells_of p)) named.is ((told.each named.tablet ((are.each named.tablet).1 named.of)).files.each named.file named.there)
    by path (inr (inl flagged)) = low path flagged
    by path (inr (inr flagged)) = high path flagged
