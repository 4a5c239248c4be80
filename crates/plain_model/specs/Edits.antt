-- What is done to one table of a list.
use Rattle.std.specs.Prelude.{◌≡◌, ℕ, List, Option, Some, None, Result, Err, MatchResult}
use Rattle.std.specs.Result.{result_map_both}
use Rattle.plain_model.specs.declared.stop.PlainStop.{PlainStop}
use Rattle.plain_model.specs.declared.stop.PlainStop.TheVariants.{NoStaged, NoMemory}
use Rattle.plain_model.specs.declared.operation.Pair.{Pair}
use Rattle.plain_model.specs.declared.tables.PlainTable.{PlainTable}
use Rattle.plain_model.specs.State.{Table, PairMap}
use Rattle.plain_model.specs.Applies.{Applies}
use Rattle.plain_model.specs.Listed.{listed, pair_item, table_item}

-- the item gives way to that of what `make` makes of its table
abbrev pub Edits : (Table → Result Table PlainStop) → PlainTable → Result (Unit {0}) PlainStop → PlainTable → Type 0
Edits make old answer new = (id : List ℕ) (table : Table) → old ≡ table_item (id, table)
    → Applies (result_map_both (λ changed. table_item (id, changed)) (λ refusal. refusal) (make table)) old answer new

-- the answer is these pairs, if there are any and there is memory for them
abbrev pub GivesPairs : Option PairMap → Result (List Pair) PlainStop → Type 0
GivesPairs None answer = answer ≡ Err NoStaged
GivesPairs (Some next) answer = MatchResult answer (λ pairs. pairs ≡ listed pair_item next) (λ stop. stop ≡ NoMemory)
