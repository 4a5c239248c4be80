use Rattle.std.proofs.Common.{◌≤◌, List, ℕ, Option, Some, None, inl, inr, length, refl, lit<}
use Rattle.std.specs.Prelude.{codes, IfSome}
use Rattle.std.proofs.lemmas.List.Elements.{All-nil}
use Rattle.row_keys.specs.Forms.{IsLogName}
use Rattle.metadata_schema.specs.Paths.{IsDirectory}
use Rattle.metadata_schema.specs.Records.{IsFile, IsLoaded, IsWellFormed, new_tablet}
use Rattle.metadata_schema.proofs.laws.new_tablets_are_well_formed.Goals as goal

well_formed : (table : List ℕ) (end prev : Option (List ℕ)) (dir : List ℕ) → IfSome prev (λ row. length row ≤ 300) → IsDirectory dir → IsWellFormed (new_tablet table end prev dir)
well_formed table end prev dir short is_dir = record {
  order = record { files = refl; logs = refl; loaded = refl };
  dir = is_dir;
  bar = lit< tt;
  prev = short;
  old_prev = tt;
  merged = tt;
  loc = tt;
  future = tt;
  files = All-nil IsFile;
  logs = All-nil IsLogName;
  loaded = All-nil IsLoaded;
}

pub returns : goal.returns
returns c = record { each = well_formed; first = well_formed (codes "!0") (Some (codes "~")) None (codes "table_info") tt (inr (inl refl)) }
