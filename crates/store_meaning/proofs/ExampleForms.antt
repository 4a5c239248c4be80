-- The records of the small store are well formed, and its cells tell of them.
use Rattle.std.proofs.Common.{◌≡◌, ◌≢◌, inl, inr, ℕ, ◌<◌, codes, List, [], ◌∷◌, length, drop, Some, None, refl, ap, arith, lit<, lit≤}
use Rattle.std.proofs.lemmas.List.Elements.{All-nil, All-cons}
use Rattle.std.specs.List.Sorted.{IsStrictlySortedBy}
use Rattle.row_keys.specs.Forms.{IsLogName, IsTableId}
use Rattle.row_keys.specs.MetadataRow.{metadata_row}
use Rattle.row_keys.proofs.MetadataRowsLemmas.{one_to_one}
use Rattle.metadata_schema.specs.declared.tablet.FileEntry.{FileEntry}
use Rattle.metadata_schema.specs.Paths.{IsDirectory, IsFilePath}
use Rattle.metadata_schema.specs.Records.{IsFile, IsLoaded, IsHolder, IsWellFormed}
use Rattle.cell_merge.specs.Newest.{HaveRisingKeys}
use Rattle.store_layout.specs.NewStore.{last_metadata}
use Rattle.store_meaning.specs.Levels.{IsLevelOf, IsRecordAt, IsMetadataTable, metadata_id}
use Rattle.store_meaning.specs.Example.{holder, low, high, tablets_path, tablets_cells, info, levels_path, levels_cells, root, reading}
use Rattle.store_meaning.proofs.NewLevel.{FormsNew, apart, at_last}
use Rattle.store_meaning.proofs.TwoRecords.{level_is}

-- ---- forms of names

pub seven : (text : List ℕ) → length text ≡ 7 → (rest : List ℕ) → text ≡ 48 ∷ rest → length rest < 7
seven text long rest e = let lengths = ap (length {A = ℕ}) e in omega (arith, long, lengths)

abbrev pub tablets_form : IsFilePath tablets_path
tablets_form = record {
  id = codes "!0";
  dir = codes "table_info";
  name = codes "F0000002.rf";
  parts = record {
    is_id = inr (inl refl);
    is_dir = inr (inl refl);
    is_name = record { kind = 70; text = codes "0000002"; is_kind = refl; drawn = record { form = record { least = lit≤ tt; most = lit≤ tt; each = refl }; plain = seven (codes "0000002") refl }; is = refl };
  };
  is = refl;
}

abbrev pub levels_form : IsFilePath levels_path
levels_form = record {
  id = codes "+r";
  dir = codes "root_tablet";
  name = codes "A0000004.rf";
  parts = record {
    is_id = inl refl;
    is_dir = inl refl;
    is_name = record { kind = 65; text = codes "0000004"; is_kind = refl; drawn = record { form = record { least = lit≤ tt; most = lit≤ tt; each = refl }; plain = seven (codes "0000004") refl }; is = refl };
  };
  is = refl;
}

low_dir : IsDirectory (codes "t-0000003")
low_dir = inr (inr (inr (codes "0000003", refl, record { form = record { least = lit≤ tt; most = lit≤ tt; each = refl }; plain = seven (codes "0000003") refl })))

holder_form : IsHolder holder
holder_form = record { session = record { least = lit≤ tt; most = lit≤ tt; each = refl }; server = record { least = lit≤ tt; most = lit≤ tt; each = refl } }

-- ---- records

low_form : IsWellFormed low
low_form = record {
  order = record { files = refl; logs = refl; loaded = refl };
  dir = low_dir;
  bar = lit< tt;
  prev = tt;
  old_prev = tt;
  merged = tt;
  loc = holder_form;
  future = tt;
  files = All-nil IsFile;
  logs = All-nil IsLogName;
  loaded = All-nil IsLoaded;
}

high_form : IsWellFormed high
high_form = record {
  order = record { files = refl; logs = refl; loaded = refl };
  dir = inr (inr (inl refl));
  bar = lit< tt;
  prev = lit≤ tt;
  old_prev = tt;
  merged = tt;
  loc = holder_form;
  future = tt;
  files = All-nil IsFile;
  logs = All-nil IsLogName;
  loaded = All-nil IsLoaded;
}

abbrev pub tablets_entry : FileEntry
tablets_entry = record { path = tablets_path; size = 290; entries = 8; time = None }

abbrev pub levels_entry : FileEntry
levels_entry = record { path = levels_path; size = 275; entries = 7; time = None }

info_form : IsWellFormed info
info_form = record {
  order = record { files = refl; logs = refl; loaded = refl };
  dir = inr (inl refl);
  bar = lit< tt;
  prev = tt;
  old_prev = tt;
  merged = tt;
  loc = tt;
  future = tt;
  files = All-cons IsFile tablets_entry [] (record { path = tablets_form; facts = record { small_size = lit< tt; few_entries = lit< tt; small_time = tt } }) (All-nil IsFile);
  logs = All-nil IsLogName;
  loaded = All-nil IsLoaded;
}

pub root_form : IsWellFormed root
root_form = record {
  order = record { files = refl; logs = refl; loaded = refl };
  dir = inl refl;
  bar = lit< tt;
  prev = tt;
  old_prev = tt;
  merged = tt;
  loc = tt;
  future = tt;
  files = All-cons IsFile levels_entry [] (record { path = levels_form; facts = record { small_size = lit< tt; few_entries = lit< tt; small_time = tt } }) (All-nil IsFile);
  logs = All-nil IsLogName;
  loaded = All-nil IsLoaded;
}

-- ---- levels

user_id : IsTableId (codes "1")
user_id = inr (inr (record { least = lit≤ tt; most = lit≤ tt; each = refl }))

at_low : IsRecordAt (codes "1") (Some (codes "m")) low
at_low = record { name = record { id = user_id; short = lit≤ tt }; table_is = refl; end_is = refl; form = low_form }

at_high : IsRecordAt (codes "1") None high
at_high = record { name = record { id = user_id; short = tt }; table_is = refl; end_is = refl; form = high_form }

at_info : IsRecordAt metadata_id (Some (codes "~")) info
at_info = record { name = record { id = inr (inl refl); short = lit≤ tt }; table_is = refl; end_is = refl; form = info_form }

apart_users : metadata_row (codes "1") (Some (codes "m")) ≢ metadata_row (codes "1") None
apart_users e = let bytes : 59 ∷ 109 ∷ [] ≡ 60 ∷ [] = ap (drop 1) e in cc bytes

pub users_is : IsLevelOf IsTableId tablets_cells reading.users
users_is = level_is low high one_to_one IsTableId apart_users at_low at_high user_id user_id

pub metadata_is : FormsNew → IsLevelOf IsMetadataTable levels_cells reading.metadata
metadata_is forms = level_is info last_metadata one_to_one IsMetadataTable apart at_info (at_last forms) refl refl

-- ---- cells in order

pub levels_rising : HaveRisingKeys levels_cells
unfolding IsStrictlySortedBy
levels_rising = (
  (refl, (refl, (refl, (refl, (refl, (refl, tt)))))),
  ((refl, (refl, (refl, (refl, (refl, tt))))), ((refl, (refl, (refl, (refl, tt)))), ((refl, (refl, (refl, tt))), ((refl, (refl, tt)), ((refl, tt), (tt, tt)))))),
)

pub tablets_rising : HaveRisingKeys tablets_cells
unfolding IsStrictlySortedBy
tablets_rising = (
  (refl, (refl, (refl, (refl, (refl, (refl, (refl, tt))))))),
  (
    (refl, (refl, (refl, (refl, (refl, (refl, tt)))))),
    ((refl, (refl, (refl, (refl, (refl, tt))))), ((refl, (refl, (refl, (refl, tt)))), ((refl, (refl, (refl, tt))), ((refl, (refl, tt)), ((refl, tt), (tt, tt)))))),
  ),
)
