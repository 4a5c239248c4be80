use Rattle.std.proofs.Common.{◌≡◌, ◌∙◌, ◌-◌, codes, ◌++◌, length, take, drop, sym, ap, subst, arith, length-drop}
use Rattle.std.proofs.lemmas.List.{take_all}
use Rattle.host_model.specs.FileName.{IsFileName}
use Rattle.log_files.specs.Mutations.{Bytes}
use Rattle.log_files.specs.Sorted.{sorted_name}
use Rattle.log_files.proofs.NameLemmas.{sorted_form}
use Rattle.log_files.proofs.names.sorted_file.Goals as goal

pub name_of-requires : goal.name_of-requires
name_of-requires c =
    let log = c.as_bytes.result.now in
    let session : take (length log - 4) (drop 4 log) ≡ drop 4 log = take_all (length log - 4) (drop 4 log) (omega (arith, length-drop 4 log)) in
    let first = c.in_ok-extend_from_slice.ensures.items ∙ ap (λ (l : Bytes). l ++ codes "sorted-") c.new-bytes.ensures.items in
    let is : c.deref.result.now ≡ sorted_name c.args.log.now = c.deref.ensures.value ∙ c.in_ok-extend_from_slice-2.ensures.items ∙ ap (λ (l : Bytes). l ++ take (length log - 4) (drop 4 log)) first ∙ ap (λ (l : Bytes). codes "sorted-" ++ l) session ∙ ap (λ (l : Bytes). codes "sorted-" ++ drop 4 l) c.as_bytes.ensures.bytes in
    subst IsFileName (sym is) (sorted_form c.args.log.now c.as_bytes.ensures.form)
