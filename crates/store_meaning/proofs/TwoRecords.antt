-- What the cells of two records tell: these two, and nothing else.
use Rattle.std.proofs.Common.{◌≡◌, ◌≢◌, ◌⊎◌, inl, inr, ℕ, Bool, true, false, cond, List, [], ◌∷◌, ◌++◌, Contains, Option, Some, None, refl, sym, ◌∙◌, ap, subst, arith}
use Rattle.std.specs.List.{list_all}
use Rattle.std.specs.Option.{option_and_then}
use Rattle.std.proofs.lemmas.Bool.{and_parts}
use Rattle.std.proofs.lemmas.Bool.Decides.{nat_tests}
use Rattle.std.proofs.lemmas.Option.{none-some}
use Rattle.row_keys.specs.Forms.{is_lower_or_digit, IsTableId, HasBytes}
use Rattle.row_keys.specs.MetadataRow.{metadata_row, IsTabletName}
use Rattle.row_keys.specs.declared.key.Key.{Key}
use Rattle.metadata_schema.specs.declared.tablet.TabletRecord.{TabletRecord}
use Rattle.metadata_schema.specs.Columns.{columns_of}
use Rattle.cell_merge.specs.declared.cell.Cell.{Cell}
use Rattle.cell_merge.specs.Newest.{later, latest}
use Rattle.cell_merge.proofs.LatestLemmas.{latest-append}
use Rattle.level_rows.specs.Chain.{is_named, rows_of}
use Rattle.level_rows.proofs.EndLemmas.{named-parts, named-from}
use Rattle.level_rows.proofs.LookupLemmas.{row-there}
use Rattle.level_rows.proofs.Membership.{Contains-nil, Contains-cons_cases}
use Rattle.store_layout.specs.NewStore.{record_cells}
use Rattle.store_meaning.specs.Levels.{SpellsRow, Level, IsLevelOf, IsRecordAt, candidate_row, flag_row, record_columns}
use Rattle.store_meaning.proofs.RowLemmas.{key_at, own_columns, other_latest, later-none}

abbrev pub OneName : Type 0
OneName = (table other : List ℕ) (end last : Option (List ℕ)) → IsTabletName table end → IsTabletName other last → metadata_row table end ≡ metadata_row other last → (table ≡ other) × (end ≡ last)

abbrev value_of : Option Cell → Option (List ℕ)
value_of = option_and_then (λ cell. cell.value)

abbrev pub row_at : TabletRecord → List ℕ
row_at tablet = metadata_row tablet.table tablet.end

-- ---- rows of tablets are no candidates' and no flags' rows

abbrev first_byte : List ℕ → ℕ
first_byte [] = 0
first_byte (b ∷ more) = b

small : (byte : ℕ) → is_lower_or_digit byte ≡ true → byte ≡ 126 → ⊥
small byte is at = grind (arith, nat_tests)

user_byte : (table : List ℕ) → HasBytes 1 13 is_lower_or_digit table → (end : Option (List ℕ)) → first_byte (metadata_row table end) ≡ 126 → ⊥
user_byte [] is end at = (let least = is.least in omega (arith, least))
user_byte (b ∷ more) is (Some end) at = small b (and_parts (is_lower_or_digit b) (list_all is_lower_or_digit more) is.each).0 at
user_byte (b ∷ more) is None at = small b (and_parts (is_lower_or_digit b) (list_all is_lower_or_digit more) is.each).0 at

named_byte : (byte : ℕ) (more : List ℕ) (end : Option (List ℕ)) → first_byte (metadata_row (byte ∷ more) end) ≡ byte
named_byte byte more (Some end) = refl
named_byte byte more None = refl

no_mark : (table : List ℕ) (end : Option (List ℕ)) → IsTableId table → first_byte (metadata_row table end) ≡ 126 → ⊥
no_mark table end (inl is) at = (let wrong : ◌≡◌ {A = ℕ} 43 126 = sym (named_byte 43 (114 ∷ []) end) ∙ ap (λ t. first_byte (metadata_row t end)) (sym is) ∙ at in omega (arith, wrong))
no_mark table end (inr (inl is)) at = (let wrong : ◌≡◌ {A = ℕ} 33 126 = sym (named_byte 33 (48 ∷ []) end) ∙ ap (λ t. first_byte (metadata_row t end)) (sym is) ∙ at in omega (arith, wrong))
no_mark table end (inr (inr is)) at = user_byte table is end at

-- ---- two records

module _ (one two : TabletRecord) where
  abbrev pub cells : List Cell
  cells = record_cells one ++ record_cells two

  abbrev pub level : Level
  level = record { records = λ table. rows_of table (one ∷ two ∷ []); is_candidate = λ path. false; flag = λ path. None }

  joined : (key : Key) → latest cells key ≡ later (latest (record_cells one) key) (latest (record_cells two) key)
  joined key = latest-append (record_cells one) (record_cells two) key

  spells_second : row_at one ≢ row_at two → SpellsRow cells (row_at two) (columns_of two)
  spells_second apart = record {
    each = λ family qualifier. (let key = key_at (row_at two) family qualifier in
        ap value_of (joined key ∙ ap (λ o. later o (latest (record_cells two) key)) (other_latest (row_at one) 1 (row_at two) (columns_of one) family qualifier (λ e. apart (sym e))))
        ∙ own_columns (row_at two) 1 (columns_of two) family qualifier);
  }

  spells_first : row_at one ≢ row_at two → SpellsRow cells (row_at one) (columns_of one)
  spells_first apart = record {
    each = λ family qualifier. (let key = key_at (row_at one) family qualifier in
        ap value_of (joined key ∙ ap (later (latest (record_cells one) key)) (other_latest (row_at two) 1 (row_at one) (columns_of two) family qualifier apart) ∙ later-none (latest (record_cells one) key))
        ∙ own_columns (row_at one) 1 (columns_of one) family qualifier);
  }

  spells_other : (row : List ℕ) → row ≢ row_at one → row ≢ row_at two → SpellsRow cells row []
  spells_other row first second = record {
    each = λ family qualifier. (let key = key_at row family qualifier in
        ap value_of (joined key
        ∙ ap (λ o. later o (latest (record_cells two) key)) (other_latest (row_at one) 1 row (columns_of one) family qualifier first)
        ∙ other_latest (row_at two) 1 row (columns_of two) family qualifier second));
  }

  pub one_of_two : (tablet : TabletRecord) → Contains (one ∷ two ∷ []) tablet → (one ≡ tablet) ⊎ (two ≡ tablet)
  one_of_two tablet there = elim (Contains-cons_cases one tablet (two ∷ []) there) [
    | inl is ↦ inl is
    | inr rest ↦ elim (Contains-cons_cases two tablet [] rest) [ inl is ↦ inr is | inr none ↦ absurd (Contains-nil tablet none) ]
  ]

  module _ (one_name : OneName) (is_of : List ℕ → Type 0) (apart : row_at one ≢ row_at two) (first : IsRecordAt one.table one.end one) (second : IsRecordAt two.table two.end two) (of_first : is_of one.table) (of_second : is_of two.table) where
    spells_each : (table : List ℕ) (end : Option (List ℕ)) → IsTabletName table end → SpellsRow cells (metadata_row table end) (record_columns (rows_of table (one ∷ two ∷ []) end))
    spells_each table end name = by (is_named table end one) (is_named table end two) refl refl
      where
        other : (tablet : TabletRecord) → IsTabletName tablet.table tablet.end → is_named table end tablet ≡ false → metadata_row table end ≢ row_at tablet
        other tablet named fails e =
            let same = one_name table tablet.table end tablet.end name named e in
            let right = named-from table end tablet (sym same.0) (sym same.1) in
            let wrong : true ≡ false = sym right ∙ fails in
            cc

        by : (b d : Bool) → is_named table end one ≡ b → is_named table end two ≡ d → SpellsRow cells (metadata_row table end) (record_columns (cond b (Some one) (cond d (Some two) None)))
        by true d e f = (let same = named-parts table end one e in subst (λ row. SpellsRow cells row (columns_of one)) (λ i. metadata_row (same.0 i) (same.1 i)) (spells_first apart))
        by false true e f = (let same = named-parts table end two f in subst (λ row. SpellsRow cells row (columns_of two)) (λ i. metadata_row (same.0 i) (same.1 i)) (spells_second apart))
        by false false e f = spells_other (metadata_row table end) (other one first.name e) (other two second.name f)

    record_at : (table : List ℕ) (end : Option (List ℕ)) (tablet : TabletRecord) → rows_of table (one ∷ two ∷ []) end ≡ Some tablet → is_of table × IsRecordAt table end tablet
    record_at table end tablet is =
        let found = row-there table (one ∷ two ∷ []) end tablet is in
        elim (one_of_two tablet found.0) [
          | inl at ↦ moved one table end tablet at found.1 found.2 of_first first
          | inr at ↦ moved two table end tablet at found.1 found.2 of_second second
        ]
      where
        moved : (known : TabletRecord) (table : List ℕ) (end : Option (List ℕ)) (tablet : TabletRecord) → known ≡ tablet → tablet.table ≡ table → tablet.end ≡ end → is_of known.table → IsRecordAt known.table known.end known → is_of table × IsRecordAt table end tablet
        moved known table end tablet at tables ends of is =
            let to_table : known.table ≡ table = ap (λ t. t.table) at ∙ tables in
            let to_end : known.end ≡ end = ap (λ t. t.end) at ∙ ends in
            (subst is_of to_table of, subst (λ t. IsRecordAt t end tablet) to_table (subst (λ e. IsRecordAt known.table e tablet) to_end (subst (IsRecordAt known.table known.end) at is)))

    marked : (row : List ℕ) → first_byte row ≡ 126 → SpellsRow cells row []
    marked row is = spells_other row (λ e. no_mark one.table one.end first.name.id (ap first_byte (sym e) ∙ is)) (λ e. no_mark two.table two.end second.name.id (ap first_byte (sym e) ∙ is))

    pub level_is : IsLevelOf is_of cells level
    level_is = record {
      records = λ table end of name. spells_each table end name;
      own_tables = λ table end tablet is. (record_at table end tablet is).0;
      forms = λ table end tablet is. (record_at table end tablet is).1;
      candidates = λ path. marked (candidate_row path) refl;
      candidate_paths = λ path e. absurd (let wrong : false ≡ true = e in cc);
      flags = λ path. marked (flag_row path) refl;
      flag_forms = λ path flag e. absurd (none-some flag e);
    }
