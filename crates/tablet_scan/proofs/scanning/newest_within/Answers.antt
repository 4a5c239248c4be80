use Rattle.std.proofs.Common.{◌≡◌, ◌∙◌, ◌++◌, ap, subst}
use Rattle.std.specs.Option.{option_copied}
use Rattle.std.proofs.lemmas.Result.{IfOk-weaker}
use Rattle.cell_merge.specs.Newest.{clipped, IsNewest}
use Rattle.tablet_scan.proofs.ScanLemmas.{newest_merged}
use Rattle.tablet_scan.proofs.scanning.newest_within.Goals as goal

pub returns : goal.returns
returns c =
    let from = option_copied c.args.from in
    let to = option_copied c.args.to in
    let low = option_copied c.args.low in
    let high = c.args.tablet.now.end in
    let merged = c.in_ok-newest.field-0.items in
    let kept : c.deref.result.now ≡ clipped from to (clipped low high (c.args.cells.items ++ merged)) =
    c.deref.ensures.value ∙ c.keep_within-2.ensures ∙ ap (clipped from to) (c.keep_within.ensures ∙ ap (λ end. clipped low end c.append.new.self.items) c.as_ref.ensures.value ∙ ap (clipped low high) c.in_ok-append.ensures.items) in
    IfOk-weaker c.newest-2.result _ _ (λ pairs is. newest_merged from to low high c.args.cells.items c.args.memory.now.cells merged pairs.items c.in_ok-newest.ensures (subst (λ cells. IsNewest cells pairs.items) kept is)) c.newest-2.ensures
