use Rattle.table_store.proofs.ValueLemmas.{name_read}
use Rattle.table_store.proofs.values.name_of.Goals as goal

pub returns-in-Some : goal.returns-in-Some
returns-in-Some c = name_read c.args.value.now c.in-Some.name.now c.in-Some.ensures c.new.result c.new.ensures.ok c.new.ensures.form
