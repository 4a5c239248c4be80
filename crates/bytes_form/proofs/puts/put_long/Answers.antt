use Rattle.std.specs.Int.{w16}
use Rattle.std.proofs.lemmas.Result.{IfOk-equal}
use Rattle.bytes_form.specs.Fields.{number_field}
use Rattle.bytes_form.proofs.CountedLemmas.{put_counted}
use Rattle.bytes_form.proofs.puts.put_long.Goals as goal

pub returns-clause-ok : goal.returns-clause-ok
unfolding number_field
returns-clause-ok c =
    IfOk-equal c.put_both.result _ _ _ c.put_both.ensures.ok (put_counted w16 c.args.out.now.items _ c.args.bytes.now c.write_u16.ensures)
