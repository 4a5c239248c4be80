-- Levels as one row is written.
use Rattle.std.proofs.Common.{◌≡◌, ◌≢◌, inl, inr, ℕ, Bool, true, false, cond, ◌&&◌, codes, List, [], ◌∷◌, ◌++◌, drop, Contains, IsTrue, Option, Some, None, refl, sym, ◌∙◌, ap, subst, arith}
use Rattle.std.specs.Option.{option_map, option_map_or}
use Rattle.std.specs.List.{list_all}
use Rattle.std.proofs.lemmas.Bool.{cases_Bool, and_parts, and_from}
use Rattle.std.proofs.lemmas.Option.{same_Some, none-some}
use Rattle.row_keys.specs.declared.key.Key.{Key}
use Rattle.row_keys.specs.Forms.{IsTableId, is_lower_or_digit}
use Rattle.row_keys.specs.MetadataRow.{metadata_row, IsTabletName}
use Rattle.row_keys.proofs.MetadataRowsLemmas.{one_to_one}
use Rattle.metadata_schema.specs.declared.mutation.Mutation.{Mutation}
use Rattle.metadata_schema.specs.declared.mutation.Update.{Update}
use Rattle.metadata_schema.specs.declared.tablet.TabletRecord.{TabletRecord}
use Rattle.metadata_schema.specs.Between.{LeadsBetween}
use Rattle.metadata_schema.specs.Bytes.{same, is_rising}
use Rattle.metadata_schema.specs.Columns.{update_cmp, is_named, update_at, column_at}
use Rattle.metadata_schema.specs.Paths.{IsFilePath}
use Rattle.metadata_schema.proofs.LawsLemmas.{lead_to}
use Rattle.metadata_schema.proofs.OrderLemmas.{absent}
use Rattle.cell_merge.specs.declared.cell.Cell.{Cell}
use Rattle.cell_merge.specs.Newest.{latest, newest_at}
use Rattle.cell_merge.specs.Changes.{AreConsistent, Gains, overlaid}
use Rattle.cell_merge.proofs.LatestLemmas.{newest-gains}
use Rattle.level_rows.specs.Chain.{same_end}
use Rattle.level_rows.proofs.ChoiceLemmas.{some_of}
use Rattle.level_rows.proofs.EndLemmas.{same-true, same-itself, same-refl, same_end-true, same_end-refl}
use Rattle.level_rows.proofs.Membership.{Contains-nil, Contains-cons_cases}
use Rattle.store_layout.specs.NewStore.{cell_of}
use Rattle.store_meaning.specs.Content.{cells_of_mutation}
use Rattle.store_meaning.specs.Levels.{SpellsRow, Level, Flag, IsLevelOf, IsRecordAt, IsFlagAt, candidate_row, flag_row, record_columns, candidate_columns, flag_columns}
use Rattle.store_meaning.specs.RowWrites.{LevelRow, RecordRow, CandidateRow, FlagRow, place_of, columns_in, columns_to, MayStand, with_level_row}
use Rattle.store_meaning.proofs.MemberLemmas.{Contains-map}
use Rattle.store_meaning.proofs.RowLemmas.{key_at, given, own_latest, other_latest}

-- ---- the cells of one mutation

-- an update among updates in order says what it says of its column
own_update : (updates : List Update) → IsTrue (is_rising update_cmp updates) → (update : Update) → Contains updates update → update_at updates update.family update.qualifier ≡ Some update.value
own_update [] rising update there = absurd (Contains-nil update there)
own_update (first ∷ more) rising update there =
    let parts = and_parts (list_all (λ other. Rattle.std.specs.Ordering.is_lt (update_cmp first other)) more) (is_rising update_cmp more) rising in
    elim (Contains-cons_cases first update more there) [
      | inl is ↦ subst (λ (u : Update). update_at (first ∷ more) u.family u.qualifier ≡ Some u.value) is
          (ap (λ b. cond b (Some first.value) (update_at more first.family first.qualifier)) (and_from (same first.family first.family) (same first.qualifier first.qualifier) (same-refl first.family) (same-refl first.qualifier)))
      | inr rest ↦
          let later = own_update more parts.1 update rest in
          elim (cases_Bool (is_named update.family update.qualifier first)) [
            | inl named ↦ absurd (none-some update.value (sym (absent update.family update.qualifier first more named parts.0) ∙ later))
            | inr other ↦ ap (λ b. cond b (Some first.value) (update_at more update.family update.qualifier)) other ∙ later
          ]
    ]

-- no two different cells of a mutation are of one key
pub consistent_mutation : (mutation : Mutation) → IsTrue (is_rising update_cmp mutation.updates) → AreConsistent (cells_of_mutation mutation)
consistent_mutation mutation rising = record {
  one = λ a b p q key time.
      let u = Contains-map (cell_of mutation.row mutation.time) mutation.updates a p in
      let v = Contains-map (cell_of mutation.row mutation.time) mutation.updates b q in
      let keys : (cell_of mutation.row mutation.time u.0).key ≡ (cell_of mutation.row mutation.time v.0).key = ap (λ (c : Cell). c.key) u.2 ∙ key ∙ ap (λ (c : Cell). c.key) (sym v.2) in
      let families : u.0.family ≡ v.0.family = ap (λ (k : Key). k.family) keys in
      let qualifiers : u.0.qualifier ≡ v.0.qualifier = ap (λ (k : Key). k.qualifier) keys in
      let values : u.0.value ≡ v.0.value =
      same_Some _ _ (sym (own_update mutation.updates rising u.0 u.1) ∙ (λ i. update_at mutation.updates (families i) (qualifiers i)) ∙ own_update mutation.updates rising v.0 v.1) in
      sym u.2 ∙ (λ i. given mutation.row mutation.time (families i) (qualifiers i) (values i)) ∙ v.2;
}

-- ---- rows apart

-- a table's id doesn't begin with `~`
id_is_no_mark : (table more rest : List ℕ) → IsTableId table → table ++ more ≡ 126 ∷ rest → ⊥
id_is_no_mark table more rest (inl is) e = first_two (sym (ap (λ t. t ++ more) is) ∙ e)
  where
    first_two : 43 ∷ 114 ∷ more ≡ 126 ∷ rest → ⊥
    first_two e = (let at : ◌≡◌ {A = ℕ} 43 126 = cc e in omega (arith, at))
id_is_no_mark table more rest (inr (inl is)) e = first_two (sym (ap (λ t. t ++ more) is) ∙ e)
  where
    first_two : 33 ∷ 48 ∷ more ≡ 126 ∷ rest → ⊥
    first_two e = (let at : ◌≡◌ {A = ℕ} 33 126 = cc e in omega (arith, at))
id_is_no_mark [] more rest (inr (inr form)) e = let least = form.least in omega (arith, least)
id_is_no_mark (b ∷ bs) more rest (inr (inr form)) e =
    let at : b ≡ 126 = cc e in
    let is = (and_parts (is_lower_or_digit b) (list_all is_lower_or_digit bs) form.each).0 in
    let wrong : is_lower_or_digit 126 ≡ true = subst (λ x. is_lower_or_digit x ≡ true) at is in
    cc wrong

tablet_is_no_mark : (table : List ℕ) (end : Option (List ℕ)) (rest : List ℕ) → IsTabletName table end → metadata_row table end ≡ 126 ∷ rest → ⊥
tablet_is_no_mark table None rest name e = id_is_no_mark table (60 ∷ []) rest name.id e
tablet_is_no_mark table (Some end) rest name e = id_is_no_mark table (59 ∷ end) rest name.id e

candidate_is_no_flag : (path other : List ℕ) → candidate_row path ≡ flag_row other → ⊥
candidate_is_no_flag path other e = (let at : ◌≡◌ {A = ℕ} 100 98 = cc e in omega (arith, at))

same_candidate : (path other : List ℕ) → candidate_row path ≡ candidate_row other → path ≡ other
same_candidate path other e = ap (drop 4) e

same_flag : (path other : List ℕ) → flag_row path ≡ flag_row other → path ≡ other
same_flag path other e = ap (drop 5) e

apart-false : (one other : List ℕ) → same one other ≡ false → one ≢ other
apart-false one other e is = let wrong : true ≡ false = sym (same-itself one other is) ∙ e in cc

-- ---- what cells spell once one row is written

over : (row : List ℕ) (time : ℕ) (family qualifier : List ℕ) (o : Option (Option (List ℕ))) (below : Option (List ℕ)) → overlaid (option_map (given row time family qualifier) o) below ≡ option_map_or (λ value. value) o below
over row time family qualifier None below = refl
over row time family qualifier (Some value) below = refl

module _ (old new : List Cell) (mutation : Mutation) (was : AreConsistent old) (gains : Gains (cells_of_mutation mutation) old new) (before after : List Update) (leads : LeadsBetween before after mutation.updates) where
  gained : (key : Key) → newest_at new key ≡ overlaid (latest (cells_of_mutation mutation) key) (newest_at old key)
  gained key = newest-gains (cells_of_mutation mutation) old new key was (consistent_mutation mutation leads.order) gains

  -- another row is as it was
  pub spells_other : (row : List ℕ) (columns : List Update) → row ≢ mutation.row → SpellsRow old row columns → SpellsRow new row columns
  spells_other row columns apart spells = record {
    each = λ family qualifier.
        gained (key_at row family qualifier)
        ∙ ap (λ o. overlaid o (newest_at old (key_at row family qualifier))) (other_latest mutation.row mutation.time row mutation.updates family qualifier apart)
        ∙ spells.each family qualifier;
  }

  -- the row has the columns that the updates lead to
  pub spells_here : SpellsRow old mutation.row before → SpellsRow new mutation.row after
  spells_here spells = record {
    each = λ family qualifier.
        gained (key_at mutation.row family qualifier)
        ∙ ap (λ o. overlaid o (newest_at old (key_at mutation.row family qualifier))) (own_latest mutation.row mutation.time mutation.updates family qualifier)
        ∙ ap (overlaid (option_map (given mutation.row mutation.time family qualifier) (update_at mutation.updates family qualifier))) (spells.each family qualifier)
        ∙ over mutation.row mutation.time family qualifier (update_at mutation.updates family qualifier) (column_at before family qualifier)
        ∙ lead_to before after mutation.updates leads family qualifier;
  }

-- ---- a level once one row is written

module _ (is_of : List ℕ → Type 0) (level : Level) (old new : List Cell) (mutation : Mutation) (was : AreConsistent old) (gains : Gains (cells_of_mutation mutation) old new) (is : IsLevelOf is_of old level) where
  record_led : (table : List ℕ) (end : Option (List ℕ)) (tablet : Option TabletRecord) → mutation.row ≡ metadata_row table end → LeadsBetween (record_columns (level.records table end)) (record_columns tablet) mutation.updates
      → MayStand is_of (RecordRow table end tablet) → IsLevelOf is_of new (with_level_row level (RecordRow table end tablet))
  record_led table end tablet place leads form = record {
    records = λ other high of name. spelled other high of name (same other table && same_end high end) refl;
    own_tables = λ other high t there. owned other high t (same other table && same_end high end) refl there;
    forms = λ other high t there. formed other high t (same other table && same_end high end) refl there;
    candidates = λ path. elsewhere (candidate_row path) (candidate_columns (level.is_candidate path)) (λ at. tablet_is_no_mark table end (codes "del" ++ path) form.1 (sym at)) (is.candidates path);
    candidate_paths = is.candidate_paths;
    flags = λ path. elsewhere (flag_row path) (flag_columns (level.flag path)) (λ at. tablet_is_no_mark table end (codes "blip" ++ path) form.1 (sym at)) (is.flags path);
    flag_forms = is.flag_forms;
  }
    where
      elsewhere : (row : List ℕ) (columns : List Update) → row ≢ metadata_row table end → SpellsRow old row columns → SpellsRow new row columns
      elsewhere row columns apart = spells_other old new mutation was gains (record_columns (level.records table end)) (record_columns tablet) leads row columns (λ at. apart (at ∙ place))

      here : SpellsRow new (metadata_row table end) (record_columns tablet)
      here = subst (λ row. SpellsRow new row (record_columns tablet)) place
          (spells_here old new mutation was gains (record_columns (level.records table end)) (record_columns tablet) leads
          (subst (λ row. SpellsRow old row (record_columns (level.records table end))) (sym place) (is.records table end form.0 form.1)))

      at_row : (other : List ℕ) (high : Option (List ℕ)) → same other table && same_end high end ≡ true → (other ≡ table) × (high ≡ end)
      at_row other high e = let parts = and_parts (same other table) (same_end high end) e in (same-true other table parts.0, same_end-true high end parts.1)

      spelled : (other : List ℕ) (high : Option (List ℕ)) → is_of other → IsTabletName other high → (b : Bool) → same other table && same_end high end ≡ b
          → SpellsRow new (metadata_row other high) (record_columns (cond b tablet (level.records other high)))
      spelled other high of name true e =
          let at = at_row other high e in
          subst (λ t. SpellsRow new (metadata_row t high) (record_columns tablet)) (sym at.0) (subst (λ h. SpellsRow new (metadata_row table h) (record_columns tablet)) (sym at.1) here)
      spelled other high of name false e = elsewhere (metadata_row other high) (record_columns (level.records other high)) (λ at.
          let one = one_to_one other table high end name form.1 at in
          let wrong : true ≡ false = sym (and_from (same other table) (same_end high end) (same-itself other table one.0) (ap (λ h. same_end h end) one.1 ∙ same_end-refl end)) ∙ e in
          cc) (is.records other high of name)

      owned : (other : List ℕ) (high : Option (List ℕ)) (t : TabletRecord) (b : Bool) → same other table && same_end high end ≡ b → cond b tablet (level.records other high) ≡ Some t → is_of other
      owned other high t true e there = subst is_of (sym (at_row other high e).0) form.0
      owned other high t false e there = is.own_tables other high t there

      formed : (other : List ℕ) (high : Option (List ℕ)) (t : TabletRecord) (b : Bool) → same other table && same_end high end ≡ b → cond b tablet (level.records other high) ≡ Some t → IsRecordAt other high t
      formed other high t true e there =
          let at = at_row other high e in
          subst (λ x. IsRecordAt x high t) (sym at.0) (subst (λ h. IsRecordAt table h t) (sym at.1) (some_of tablet t (IsRecordAt table end) there form.2))
      formed other high t false e there = is.forms other high t there

  candidate_led : (path : List ℕ) (is_there : Bool) → mutation.row ≡ candidate_row path → LeadsBetween (candidate_columns (level.is_candidate path)) (candidate_columns is_there) mutation.updates
      → MayStand is_of (CandidateRow path is_there) → IsLevelOf is_of new (with_level_row level (CandidateRow path is_there))
  candidate_led path is_there place leads form = record {
    records = λ table end of name. elsewhere (metadata_row table end) (record_columns (level.records table end)) (λ at. tablet_is_no_mark table end (codes "del" ++ path) name at) (is.records table end of name);
    own_tables = is.own_tables;
    forms = is.forms;
    candidates = λ other. spelled other (same other path) refl;
    candidate_paths = λ other there. formed other (same other path) refl there;
    flags = λ other. elsewhere (flag_row other) (flag_columns (level.flag other)) (λ at. candidate_is_no_flag path other (sym at)) (is.flags other);
    flag_forms = is.flag_forms;
  }
    where
      elsewhere : (row : List ℕ) (columns : List Update) → row ≢ candidate_row path → SpellsRow old row columns → SpellsRow new row columns
      elsewhere row columns apart = spells_other old new mutation was gains (candidate_columns (level.is_candidate path)) (candidate_columns is_there) leads row columns (λ at. apart (at ∙ place))

      here : SpellsRow new (candidate_row path) (candidate_columns is_there)
      here = subst (λ row. SpellsRow new row (candidate_columns is_there)) place
          (spells_here old new mutation was gains (candidate_columns (level.is_candidate path)) (candidate_columns is_there) leads
          (subst (λ row. SpellsRow old row (candidate_columns (level.is_candidate path))) (sym place) (is.candidates path)))

      spelled : (other : List ℕ) (b : Bool) → same other path ≡ b → SpellsRow new (candidate_row other) (candidate_columns (cond b is_there (level.is_candidate other)))
      spelled other true e = subst (λ p. SpellsRow new (candidate_row p) (candidate_columns is_there)) (sym (same-true other path e)) here
      spelled other false e = elsewhere (candidate_row other) (candidate_columns (level.is_candidate other)) (λ at. apart-false other path e (same_candidate other path at)) (is.candidates other)

      formed : (other : List ℕ) (b : Bool) → same other path ≡ b → cond b is_there (level.is_candidate other) ≡ true → IsFilePath other
      formed other true e there = subst IsFilePath (sym (same-true other path e)) (form there)
      formed other false e there = is.candidate_paths other there

  flag_led : (path : List ℕ) (flag : Option Flag) → mutation.row ≡ flag_row path → LeadsBetween (flag_columns (level.flag path)) (flag_columns flag) mutation.updates
      → MayStand is_of (FlagRow path flag) → IsLevelOf is_of new (with_level_row level (FlagRow path flag))
  flag_led path flag place leads form = record {
    records = λ table end of name. elsewhere (metadata_row table end) (record_columns (level.records table end)) (λ at. tablet_is_no_mark table end (codes "blip" ++ path) name at) (is.records table end of name);
    own_tables = is.own_tables;
    forms = is.forms;
    candidates = λ other. elsewhere (candidate_row other) (candidate_columns (level.is_candidate other)) (λ at. candidate_is_no_flag other path at) (is.candidates other);
    candidate_paths = is.candidate_paths;
    flags = λ other. spelled other (same other path) refl;
    flag_forms = λ other f there. formed other f (same other path) refl there;
  }
    where
      elsewhere : (row : List ℕ) (columns : List Update) → row ≢ flag_row path → SpellsRow old row columns → SpellsRow new row columns
      elsewhere row columns apart = spells_other old new mutation was gains (flag_columns (level.flag path)) (flag_columns flag) leads row columns (λ at. apart (at ∙ place))

      here : SpellsRow new (flag_row path) (flag_columns flag)
      here = subst (λ row. SpellsRow new row (flag_columns flag)) place
          (spells_here old new mutation was gains (flag_columns (level.flag path)) (flag_columns flag) leads (subst (λ row. SpellsRow old row (flag_columns (level.flag path))) (sym place) (is.flags path)))

      spelled : (other : List ℕ) (b : Bool) → same other path ≡ b → SpellsRow new (flag_row other) (flag_columns (cond b flag (level.flag other)))
      spelled other true e = subst (λ p. SpellsRow new (flag_row p) (flag_columns flag)) (sym (same-true other path e)) here
      spelled other false e = elsewhere (flag_row other) (flag_columns (level.flag other)) (λ at. apart-false other path e (same_flag other path at)) (is.flags other)

      formed : (other : List ℕ) (f : Flag) (b : Bool) → same other path ≡ b → cond b flag (level.flag other) ≡ Some f → IsFlagAt other f
      formed other f true e there = subst (λ p. IsFlagAt p f) (sym (same-true other path e)) (some_of flag f (IsFlagAt path) there form)
      formed other f false e there = is.flag_forms other f there

  -- a row of either kind
  pub level_led : (row : LevelRow) → mutation.row ≡ place_of row → LeadsBetween (columns_in level row) (columns_to row) mutation.updates → MayStand is_of row → IsLevelOf is_of new (with_level_row level row)
  level_led (RecordRow table end tablet) place leads form = record_led table end tablet place leads form
  level_led (CandidateRow path is_there) place leads form = candidate_led path is_there place leads form
  level_led (FlagRow path flag) place leads form = flag_led path flag place leads form
