use Rattle.std.proofs.Common.{◌∙◌, sym, ap, subst, arith}
use Rattle.std.proofs.lemmas.List.{get_or-map, length-map}
use Rattle.log_files.specs.Mutations.{IsLogged}
use Rattle.log_files.proofs.SortLemmas.{shown}
use Rattle.log_files.proofs.sorted_bytes.put_entries.Goals as goal

pub put_entry-requires : goal.put_entry-requires
put_entry-requires c =
    let r = c.mutation-item.result in
    let within = c.loop-mutation-test.true in
    subst IsLogged (get_or-map shown c.args.mutations.now c.loop-mutation.mutation-index r r.now within ∙ sym (ap shown c.mutation-item.is)) (c.requires c.loop-mutation.mutation-index r.now (omega (arith, within, length-map c.args.mutations.now shown)))
