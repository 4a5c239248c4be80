use Rattle.table_store.proofs.reading.table_of.Goals as goal

pub returns-in_default : goal.returns-in_default
returns-in_default c = let none = rw c.in_default.is at c.in_ok-id.ensures in record { none = λ name id node. none id node.path_is node.drawn }
