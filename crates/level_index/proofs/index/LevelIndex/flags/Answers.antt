use Rattle.std.proofs.Common.{◌≡◌, ◌∙◌, ◌++◌, codes, sym, ap, subst}
use Rattle.std.specs.BTreeMap.Range.{entries_between}
use Rattle.std.specs.Map.Iter.{deref_pair}
use Rattle.std.specs.declared.ops.Bound.TheVariants.{Included, Excluded}
use Rattle.std.proofs.lemmas.List.{append-nil}
use Rattle.std.proofs.lemmas.Map.Iter.{rest_all}
use Rattle.node_store.specs.PathsTo.{path_cmp}
use Rattle.level_index.specs.Entries.{level_of}
use Rattle.level_index.specs.Lists.{AreFlagsOf}
use Rattle.level_index.specs.Ranges.{flag_of}
use Rattle.level_index.proofs.ListLemmas.{Listed, picked}
use Rattle.level_index.proofs.ListedLevels.{flags_listed}
use Rattle.level_index.proofs.index.LevelIndex.flags.Goals as goal

pub returns : goal.returns
returns c =
    let es = c.entries.result.now.entries in
    let done = rest_all deref_pair c.loop-entry.entry-iterator c.next.new.self c.next.result c.in-None.is c.next.ensures.steps in
    let all : c.loop-entry.flags.items ≡ picked flag_of (entries_between path_cmp (Included (codes "~blip")) (Excluded (codes "~del")) es) =
    sym (ap (λ (l : Listed). c.loop-entry.flags.items ++ picked flag_of l) done ∙ append-nil _)
    ∙ c.loop-entry.invariant
    ∙ ap (picked flag_of) (c.into_iter-entry-iterator.ensures.into_iter_gives ∙ c.range-entry-items.ensures.between tt)
    ∙ (λ i. picked flag_of (entries_between path_cmp (Included (c.in_ok-row_of.ensures i)) (Excluded (c.in_ok-row_of-2.ensures i)) es)) in
    subst (AreFlagsOf (level_of c.args.self.now)) (sym all) (flags_listed c.args.self.now c.entries.ensures.own es c.range-entry-items.ensures.ordered c.entries.ensures.map)
