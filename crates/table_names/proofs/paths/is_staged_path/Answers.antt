use Rattle.std.proofs.Common.{Some}
use Rattle.std.specs.Prelude.{codes}
use Rattle.std.proofs.lemmas.Bool.Decides.{Decides-eqb}
use Rattle.std.proofs.lemmas.Slice.Eq.{strip_prefix_is, strip_suffix_is}
use Rattle.table_names.proofs.StagedLemmas.{tells_staged}
use Rattle.table_names.proofs.paths.is_staged_path.Goals as goal

pub returns : goal.returns
returns c =
    let rest = c.in-Some.rest in
    let text = c.in-Some-strip_suffix.text in
    let first = strip_prefix_is Decides-eqb c.args.bytes.now (codes "stage/default_tablet/I") (Some rest) c.in-Some.ensures.cases in
    let ends = strip_suffix_is Decides-eqb rest.now (codes ".rf") (Some text) c.in-Some-strip_suffix.ensures.cases in
    tells_staged c.is_drawn_text.result c.args.bytes.now rest.now text.now first ends c.is_drawn_text.ensures
