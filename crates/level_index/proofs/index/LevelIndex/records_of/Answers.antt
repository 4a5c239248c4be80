use Rattle.std.proofs.Common.{◌≡◌, ◌∙◌, ◌++◌, sym, ap, subst}
use Rattle.std.specs.BTreeMap.Range.{entries_between}
use Rattle.std.specs.Map.Iter.{deref_pair}
use Rattle.std.proofs.lemmas.List.{append-nil}
use Rattle.std.proofs.lemmas.Map.Iter.{rest_all}
use Rattle.node_store.specs.PathsTo.{path_cmp}
use Rattle.level_index.specs.Entries.{level_of}
use Rattle.level_index.specs.Lists.{AreRecordsOf}
use Rattle.level_index.specs.Ranges.{record_of}
use Rattle.level_index.proofs.ListLemmas.{Listed, picked}
use Rattle.level_index.proofs.ListedLevels.{first_of, last_of, tablets_forward, records_listed}
use Rattle.level_index.proofs.index.LevelIndex.records_of.Goals as goal

pub range-entry-items-requires : goal.range-entry-items-requires
range-entry-items-requires c = rw c.in_ok-range.ensures (tablets_forward c.args.table.now)

pub returns : goal.returns
returns c =
    let es = c.entries.result.now.entries in
    let table = c.args.table.now in
    let done = rest_all deref_pair c.loop-entry.entry-iterator c.next.new.self c.next.result c.in-None.is c.next.ensures.steps in
    let all : c.loop-entry.records.items ≡ picked (record_of table) (entries_between path_cmp (first_of table) (last_of table) es) =
    sym (ap (λ (l : Listed). c.loop-entry.records.items ++ picked (record_of table) l) done ∙ append-nil _)
    ∙ c.loop-entry.invariant
    ∙ ap (picked (record_of table)) (c.into_iter-entry-iterator.ensures.into_iter_gives ∙ c.range-entry-items.ensures.between tt)
    ∙ (λ i. picked (record_of table) (entries_between path_cmp (c.in_ok-range.ensures i).0 (c.in_ok-range.ensures i).1 es)) in
    subst (AreRecordsOf (level_of c.args.self.now) table) (sym all) (records_listed c.args.self.now c.entries.ensures.own es c.range-entry-items.ensures.ordered c.entries.ensures.map table)
