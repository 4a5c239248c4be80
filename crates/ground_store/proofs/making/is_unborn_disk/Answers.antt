use Rattle.std.proofs.Common.{◌∙◌, ap, subst}
use Rattle.host_model.specs.Picture.{file_names}
use Rattle.node_store.specs.Image.{IsUnborn}
use Rattle.host_model.proofs.CallsLemmas.{still_faithful}
use Rattle.ground_store.proofs.DiskLemmas.{looks_names, alone_is_unborn}
use Rattle.ground_store.proofs.making.is_unborn_disk.Goals as goal

pub returns-in_err-names-clause-looks : goal.returns-in_err-names-clause-looks
returns-in_err-names-clause-looks g c = looks_names c.in_ok-is_born.ensures.looks c.names.ensures

pub returns-clause-looks : goal.returns-clause-looks
returns-clause-looks g c = looks_names c.in_ok-is_born.ensures.looks c.names.ensures

pub returns-clause-unborn : goal.returns-clause-unborn
returns-clause-unborn g c = λ f.
    let state = g.H.Host.state in
    let looks = c.in_ok-is_born.ensures.looks in
    let unborn = rw c.if-branch.false at (c.in_ok-is_born.ensures.born f) in
    let names = c.in_ok-names.ensures.names (still_faithful looks.quiet.keeps f) in
    alone_is_unborn (state c.args.host.now).files c.are_first_names.result c.deref.result.now c.args.nodes.now c.args.root.now (c.deref.ensures.value ∙ names ∙ ap file_names (looks.same f)) c.requires.0 c.requires.1 (subst (λ n. IsUnborn n (state c.args.host.now).files) c.requires.0 unborn) c.are_first_names.ensures
