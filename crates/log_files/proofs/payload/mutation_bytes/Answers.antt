use Rattle.std.proofs.Common.{◌∙◌, ap, ◌++◌}
use Rattle.bytes_form.specs.Fields.{short_field, long_field}
use Rattle.log_files.specs.Mutations.{Bytes, spelled_updates}
use Rattle.log_files.proofs.MutationLemmas.{mutation_put}
use Rattle.log_files.proofs.payload.mutation_bytes.Goals as goal

pub returns : goal.returns
returns c = record {
  is =
      mutation_put c.args.mutation.now c.new-bytes.result.items c.put_short.new.out.items c.put_long.new.out.items c.put_u64.new.out.items c.put_updates.new.out.items c.new-bytes.ensures.items
      (c.in_ok-put_short.ensures.ok ∙ ap (λ (l : Bytes). c.new-bytes.result.items ++ short_field l) c.as_bytes.ensures.bytes)
      (c.in_ok-put_long.ensures.ok ∙ ap (λ (l : Bytes). c.put_short.new.out.items ++ long_field l) c.as_bytes-2.ensures.bytes)
      c.in_ok-put_u64.ensures.ok
      (c.in_ok-put_updates.ensures ∙ ap (λ l. c.put_u64.new.out.items ++ spelled_updates l) c.as_slice.ensures);
  spelled = c.requires;
}
