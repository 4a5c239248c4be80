use Rattle.std.proofs.Common.{subst}
use Rattle.table_names.specs.Marks.{AreNoTableWords}
use Rattle.table_names.proofs.ValueLemmas.{no_value}
use Rattle.table_names.proofs.values.read_table.Goals as goal

pub returns-in_default : goal.returns-in_default
returns-in_default c =
    let none = rw c.in_default.is at c.in_ok-state.ensures in
    no_value c.args.id.now c.args.value.now c.in_ok-words.words.items c.in_ok-words.ensures (subst AreNoTableWords c.deref.ensures.value none)
