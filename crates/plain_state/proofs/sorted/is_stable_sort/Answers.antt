use Rattle.std.proofs.Common.{List, map, ◌∙◌, subst}
use Rattle.std.specs.Prelude.{MatchBool}
use Rattle.plain_state.proofs.OrderLemmas.{decides_sort}
use Rattle.plain_state.proofs.sorted.is_stable_sort.Goals as goal

pub returns : goal.returns
returns c = decides_sort c.are_same.result c.args.mutations.now _ c.args.in_order.now (rw (c.deref.ensures.value) c.in_ok-all.ensures) c.are_same.ensures
