use Rattle.std.proofs.Common.{sym}
use Rattle.node_store.proofs.MultiLemmas.{length-written, length-path}
use Rattle.node_store.proofs.multi_text.change_size.Goals as goal

pub returns-in-Create : goal.returns-in-Create
returns-in-Create c = rw (c.in-Create.is, c.as_bytes.ensures.bytes, c.as_bytes-in-Create.ensures) (sym (length-written 1 c.in-Create.path c.in-Create.value))

pub returns-in-Set : goal.returns-in-Set
returns-in-Set c = rw (c.in-Set.is, c.as_bytes-in-Set.ensures.bytes, c.as_bytes-in-Set-2.ensures) (sym (length-written 2 c.in-Set.path c.in-Set.value))

pub returns-in-Delete : goal.returns-in-Delete
returns-in-Delete c = rw (c.in-Delete.is, c.as_bytes-in-Delete.ensures.bytes) (sym (length-path 3 c.in-Delete.path))
