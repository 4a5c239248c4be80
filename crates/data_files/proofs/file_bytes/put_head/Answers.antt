use Rattle.std.proofs.lemmas.Result.{on_ok_weaker}
use Rattle.data_files.proofs.FileLemmas.{head_put}
use Rattle.data_files.proofs.file_bytes.put_head.Goals as goal

pub returns : goal.returns
returns c = on_ok_weaker c.put_u64-2.result (λ last. head_put c.args.cells.now c.args.out.now.items c.extend_from_slice.new.self.items c.put_u64.new.out.items c.put_u64-2.new.out.items c.greatest_time.result c.in_ok-extend_from_slice.ensures.items c.in_ok-put_u64.ensures.ok last c.greatest_time.ensures) c.put_u64-2.ensures.ok
