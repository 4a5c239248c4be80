use Rattle.std.proofs.Common.{rules, IsErrOf, List, ℕ, subst, refl}
use Rattle.std.specs.Option.{option_copied}
use Rattle.row_keys.specs.Marks.{IsSplit}
use Rattle.row_keys.specs.declared.row.KeyForm.TheVariants.{NoMark}
use Rattle.row_keys.proofs.MarksLemmas.{is_a_row, is_no_row}
use Rattle.row_keys.proofs.metadata_rows.read_metadata_row.Goals as goal

pub returns-in_err-table-clause-no_mark : goal.returns-in_err-table-clause-no_mark
returns-in_err-table-clause-no_mark c =
    let parts = option_copied c.in-Some.end in
    let split = subst (λ (l : List ℕ). IsSplit c.in-Some.id.now parts l) c.as_bytes.ensures.bytes c.in-Some.ensures.parts in
    let never : IsErrOf c.from_residual.result NoMark → ⊥ = search rules in
    is_a_row c.args.row.now c.in-Some.id.now parts never split c.in_err-table.ensures.err

pub returns-in_default-2-clause-no_mark : goal.returns-in_default-2-clause-no_mark
returns-in_default-2-clause-no_mark c =
    let parts = option_copied c.in-Some.end in
    let split = subst (λ (l : List ℕ). IsSplit c.in-Some.id.now parts l) c.as_bytes.ensures.bytes c.in-Some.ensures.parts in
    is_no_row c.args.row.now c.in-Some.id.now parts refl split (rw c.in_default-2.is at c.in_ok-table.ensures.ok)
