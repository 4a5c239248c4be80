use Rattle.table_names.proofs.Numerals.{number-base36, base36_injective}
use Rattle.table_names.proofs.laws.drawn_ids_differ.Goals as goal

pub returns : goal.returns
returns c = record { spells = number-base36; differ = base36_injective }
