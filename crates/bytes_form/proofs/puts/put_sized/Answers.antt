use Rattle.std.specs.Int.{w32}
use Rattle.std.proofs.lemmas.Result.{IfOk-equal}
use Rattle.bytes_form.specs.Fields.{number_field}
use Rattle.bytes_form.proofs.CountedLemmas.{put_counted}
use Rattle.bytes_form.proofs.puts.put_sized.Goals as goal

pub returns-clause-ok : goal.returns-clause-ok
unfolding number_field
returns-clause-ok c =
    IfOk-equal c.put_both.result _ _ _ c.put_both.ensures.ok (put_counted w32 c.args.out.now.items _ c.args.bytes.now c.write_u32.ensures)
