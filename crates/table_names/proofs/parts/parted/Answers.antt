use Rattle.std.proofs.Common.{List, ℕ, take, ◌+◌, subst, sym}
use Rattle.metadata_schema.specs.Bytes.{IsParted}
use Rattle.metadata_schema.proofs.PathLemmas.{parts_of, to_end, all_free}
use Rattle.table_names.proofs.parts.parted.Goals as goal

pub returns-in_default : goal.returns-in_default
returns-in_default c = all_free c.args.mark c.args.bytes.now c.in_default.ensures

pub returns : goal.returns
returns c =
    let bytes = c.args.bytes.now in
    subst (λ (back : List ℕ). IsParted c.args.mark (take c.in-Some.at bytes) back bytes) (sym (to_end (c.in-Some.at + 1) bytes)) (parts_of c.args.mark bytes c.in-Some.at c.in-Some.ensures)
