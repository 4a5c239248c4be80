use Rattle.store_layout.proofs.TableLemmas.{one_table, one_catalog}
use Rattle.store_layout.proofs.laws.tables_are_one_to_one.Goals as goal

pub returns : goal.returns
returns c = record { values = one_table; catalogs = one_catalog }
