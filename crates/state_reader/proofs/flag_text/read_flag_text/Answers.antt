use Rattle.std.proofs.Common.{◌∙◌, sym}
use Rattle.std.specs.Fmt.{decimal}
use Rattle.metadata_schema.proofs.LawsLemmas.{parted_once}
use Rattle.metadata_schema.proofs.SameColumns.{decimal_free}
use Rattle.state_reader.proofs.flag_text.read_flag_text.Goals as goal

pub returns-in_default-2 : goal.returns-in_default-2
returns-in_default-2 c = λ tid number small few is.
    let cut = parted_once 44 c.in-Some.front.now (decimal tid) c.in-Some.back.now (decimal number) c.in-Some.ensures.free (decimal_free tid small) (sym c.in-Some.ensures.is ∙ is) in
    (rw c.in_default-2.is at c.in_ok-tid.ensures) tid small cut.0

pub returns-in_default-3 : goal.returns-in_default-3
returns-in_default-3 c = λ tid number small few is.
    let cut = parted_once 44 c.in-Some.front.now (decimal tid) c.in-Some.back.now (decimal number) c.in-Some.ensures.free (decimal_free tid small) (sym c.in-Some.ensures.is ∙ is) in
    (rw c.in_default-3.is at c.in_ok-number.ensures) number few cut.1
