use Rattle.std.proofs.Common.{Some}
use Rattle.std.specs.Prelude.{codes}
use Rattle.std.proofs.lemmas.Bool.Decides.{Decides-eqb}
use Rattle.std.proofs.lemmas.Slice.Eq.{strip_prefix_is, strip_suffix_is}
use Rattle.table_store.proofs.ValueLemmas.{named_is}
use Rattle.table_store.proofs.values.named.Goals as goal

pub returns : goal.returns
returns c =
    let rest = c.in_ok-strip_prefix.field-0 in
    let front = strip_prefix_is Decides-eqb c.args.value.now (codes "ONLINE ") (Some rest) c.in_ok-strip_prefix.ensures.cases in
    let back = strip_suffix_is Decides-eqb rest.now (codes " -") c.strip_suffix.result c.strip_suffix.ensures.cases in
    named_is c.args.value.now rest.now c.strip_suffix.result front back
