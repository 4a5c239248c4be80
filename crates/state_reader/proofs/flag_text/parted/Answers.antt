use Rattle.std.proofs.Common.{List, ℕ, take, ◌+◌, subst, sym}
use Rattle.metadata_schema.specs.Bytes.{IsParted}
use Rattle.metadata_schema.proofs.PathLemmas.{parts_of, to_end, all_free}
use Rattle.state_reader.proofs.flag_text.parted.Goals as goal

pub returns-in_default : goal.returns-in_default
returns-in_default c = all_free 44 c.args.text.now c.in_default.ensures

pub returns : goal.returns
returns c =
    let text = c.args.text.now in
    subst (λ (back : List ℕ). IsParted 44 (take c.in-Some.at text) back text) (sym (to_end (c.in-Some.at + 1) text)) (parts_of 44 text c.in-Some.at c.in-Some.ensures)
