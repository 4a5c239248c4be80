use Rattle.std.proofs.Common.{◌≡◌, ◌++◌, take}
use Rattle.script_words.specs.Replies.{row_lines}
use Rattle.script_words.proofs.reply.put_rows.Given as goal

abbrev pub invariant-loop-text : goal.invariant-loop-text
invariant-loop-text l = l.reply.items ≡ l.fn.reply.items ++ row_lines l.number (take l.text-index l.text-items)
