use Rattle.row_keys.specs.Keys.{key_cmp}
use Rattle.row_keys.specs.RowOrder.{bytes_cmp}
use Rattle.plain_model.proofs.LawsLemmas.{keys_rise}
use Rattle.plain_model.proofs.laws.lists_rise.Goals as goal

pub returns : goal.returns
returns c = record { points = keys_rise bytes_cmp; pairs = keys_rise key_cmp; tables = keys_rise bytes_cmp; staged = keys_rise bytes_cmp }
