-- What the lines of a script are answered, and what they do to the tables.
use Rattle.std.specs.Prelude.{ℕ, ◌+◌, if◌then◌else◌, List, [], ◌∷◌, ◌++◌, Option, Some, None}
use Rattle.script_words.specs.Lines.{line_of}
use Rattle.script_words.specs.Replies.{reply_of}
use Rattle.script_words.specs.declared.line.Line.{Line}
use Rattle.script_words.specs.declared.line.Line.TheVariants.{Blank, CreateTable, Tables as ListTables, Unbuilt}
use Rattle.script_words.specs.declared.reply.Answer.{Answer}
use Rattle.script_words.specs.declared.reply.Answer.TheVariants.{Ok, Rows, Refused}
use Rattle.script_words.specs.declared.reply.Refusal.TheVariants.{Exists, Unbuilt as NotBuilt}
use Rattle.table_store.specs.Tables.{Tables, created, is_taken, table_texts}
use Rattle.table_store.specs.StoreValue.{entry_of}
use Rattle.plain_model.specs.declared.operation.Entry.{Entry}

-- what a line is answered; a blank one isn't
abbrev pub answer_to : Line → Tables → Option Answer
answer_to Blank tables = None
answer_to (CreateTable name) tables = Some (if is_taken name tables then Refused (Exists name) else Ok)
answer_to ListTables tables = Some (Rows (table_texts tables))
answer_to Unbuilt tables = Some (Refused NotBuilt)

abbrev pub spelled : ℕ → Option Answer → List ℕ
spelled number None = []
spelled number (Some answer) = reply_of number answer

-- the tables after a line
abbrev pub tables_after : Line → Tables → Tables
tables_after Blank tables = tables
tables_after (CreateTable name) tables = if is_taken name tables then tables else created name tables
tables_after ListTables tables = tables
tables_after Unbuilt tables = tables

-- the entry that a line of this number adds to the history, if it commits anything
abbrev pub entries_of : ℕ → Line → Tables → List Entry
entries_of number Blank tables = []
entries_of number (CreateTable name) tables = if is_taken name tables then [] else entry_of number name tables ∷ []
entries_of number ListTables tables = []
entries_of number Unbuilt tables = []

-- the bytes of the reply to a line of this number
abbrev pub reply_to : ℕ → Line → Tables → List ℕ
reply_to number line tables = spelled number (answer_to line tables)

-- Over the texts of lines, the first of which has this number.
abbrev pub tables_over : List (List ℕ) → Tables → Tables
tables_over [] tables = tables
tables_over (text ∷ texts) tables = tables_over texts (tables_after (line_of text) tables)

abbrev pub replies_over : ℕ → List (List ℕ) → Tables → List ℕ
replies_over number [] tables = []
replies_over number (text ∷ texts) tables = reply_to number (line_of text) tables ++ replies_over (number + 1) texts (tables_after (line_of text) tables)

abbrev pub entries_over : ℕ → List (List ℕ) → Tables → List Entry
entries_over number [] tables = []
entries_over number (text ∷ texts) tables = entries_of number (line_of text) tables ++ entries_over (number + 1) texts (tables_after (line_of text) tables)
