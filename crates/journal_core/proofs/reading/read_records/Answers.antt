use Rattle.std.proofs.Common.{◌≡◌, inl, inr, length, arith}
use Rattle.std.proofs.lemmas.List.{nil_from_length}
use Rattle.std.proofs.lemmas.Bool.Decides.{nat_tests}
use Rattle.journal_core.proofs.ReadingLemmas.{front_more, back_more, has_none}
use Rattle.journal_core.proofs.reading.read_records.Goals as goal
use Rattle.journal_core.proofs.reading.read_records.Goals.{then-is_empty-via-then-is_empty, then-is_empty-via-else-is_empty+then-rest-eq-OPEN}

pub loop-payload-preserved : goal.loop-payload-preserved
loop-payload-preserved c = record {
  front = rw (c.in_ok-push.ensures.items, c.in_ok-new.ensures) (front_more c.loop-payload.records.items c.loop-payload.invariant.front c.in-Some.ensures);
  back = back_more c.loop-payload.invariant.back c.in-Some.ensures;
}

pub returns-then-is_empty : goal.returns-then-is_empty
returns-then-is_empty c =
    elim c.then-is_empty.branch [
      | then-is_empty-via-then-is_empty w ↦
          let none : length c.loop-payload.rest.now ≡ 0 = grind (arith, nat_tests) in
          has_none _ _ c.loop-payload.invariant.back c.in_default.ensures (inr (nil_from_length c.loop-payload.rest.now none))
      | then-is_empty-via-else-is_empty+then-rest-eq-OPEN w ↦ has_none _ _ c.loop-payload.invariant.back c.in_default.ensures (inl w.if-rest-eq-OPEN.true)
    ]
