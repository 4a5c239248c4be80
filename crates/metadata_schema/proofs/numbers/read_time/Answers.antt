use Rattle.metadata_schema.proofs.NumberLemmas.{too_late}
use Rattle.std.proofs.Common.{arith}
use Rattle.metadata_schema.proofs.numbers.read_time.Goals as goal

pub returns-else-time-lt-TIME_END : goal.returns-else-time-lt-TIME_END
returns-else-time-lt-TIME_END c = too_late c.args.text.now c.in_ok-time.time (omega arith) c.if-time-lt-TIME_END.false c.in_ok-time.ensures
