use Rattle.std.proofs.Common.{◌∙◌, inl}
use Rattle.host_model.proofs.CallsLemmas.{still_faithful, still_honest}
use Rattle.store_layout.specs.NewStore.{IsUnbornDisk}
use Rattle.ground_store.proofs.MakingLemmas.{begins_nothing, file_begun, file_written, file_ready, all_begun}
use Rattle.ground_store.proofs.making.make.Goals as goal

pub returns-in_err-cells-clause-begins : goal.returns-in_err-cells-clause-begins
returns-in_err-cells-clause-begins g c = begins_nothing IsUnbornDisk (λ i disk. inl disk) (g.met.H.Host.sound c.args.host.now)

pub returns-in_err-size-clause-begins : goal.returns-in_err-size-clause-begins
returns-in_err-size-clause-begins g c = file_begun c.args.root.now c.requires.1 (g.met.H.Host.sound c.args.host.now) c.in_err-size.ensures.stores

pub returns-clause-begins : goal.returns-clause-begins
returns-clause-begins g c =
    all_begun c.args.root.now c.requires.1 (g.met.H.Host.sound c.args.host.now) c.deref.result.now (c.deref.ensures.value ∙ c.in_ok-cells.ensures.cells) c.in_ok-size.ensures.stores c.in_ok-size.ensures.writes c.make_nodes.ensures.begins

pub returns-clause-rests : goal.returns-clause-rests
returns-clause-rests g c = λ h rests.
    let written = file_written c.args.root.now c.requires.1 (g.met.H.Host.sound c.args.host.now) c.in_ok-size.ensures.stores in
    c.make_nodes.ensures.rests (still_honest written.quiet.keeps h) (written.rests h rests)

pub returns-clause-new_store : goal.returns-clause-new_store
returns-clause-new_store g c = λ f disk.
    let written = file_written c.args.root.now c.requires.1 (g.met.H.Host.sound c.args.host.now) c.in_ok-size.ensures.stores in
    c.make_nodes.ensures.new_store (still_faithful written.quiet.keeps f)
    (file_ready c.args.root.now c.requires.1 (g.met.H.Host.sound c.args.host.now) c.deref.result.now (c.deref.ensures.value ∙ c.in_ok-cells.ensures.cells) c.in_ok-size.ensures.stores c.in_ok-size.ensures.writes f disk)
