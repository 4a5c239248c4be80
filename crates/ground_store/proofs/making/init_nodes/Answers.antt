use Rattle.std.proofs.Common.{inl, sym, subst}
use Rattle.host_model.proofs.CallsLemmas.{looks-refl, still_faithful, still_honest}
use Rattle.host_model.proofs.LeavesLemmas.{rests_after_same}
use Rattle.store_layout.specs.NewStore.{IsUnbornDisk}
use Rattle.ground_store.proofs.MakingLemmas.{begins_nothing, begins_looked, begins_behind_look}
use Rattle.ground_store.proofs.making.init_nodes.Goals as goal

pub returns-in_err-nodes-clause-begins : goal.returns-in_err-nodes-clause-begins
returns-in_err-nodes-clause-begins g c = begins_nothing IsUnbornDisk (λ i disk. inl disk) (g.met.H.Host.sound c.args.host.now)

pub returns-in_err-nodes-clause-spares : goal.returns-in_err-nodes-clause-spares
returns-in_err-nodes-clause-spares g c = λ f born. looks-refl (g.H.Host.state c.args.host.now)

pub returns-in_err-root-clause-begins : goal.returns-in_err-root-clause-begins
returns-in_err-root-clause-begins g c = begins_nothing IsUnbornDisk (λ i disk. inl disk) (g.met.H.Host.sound c.args.host.now)

pub returns-in_err-root-clause-spares : goal.returns-in_err-root-clause-spares
returns-in_err-root-clause-spares g c = λ f born. looks-refl (g.H.Host.state c.args.host.now)

pub returns-in_err-is_unborn_disk-clause-begins : goal.returns-in_err-is_unborn_disk-clause-begins
returns-in_err-is_unborn_disk-clause-begins g c = begins_looked IsUnbornDisk (λ i disk. inl disk) (g.met.H.Host.sound c.args.host.now) c.in_err-is_unborn_disk.ensures.looks

pub returns-then-not-branch-clause-begins : goal.returns-then-not-branch-clause-begins
returns-then-not-branch-clause-begins g c = begins_looked IsUnbornDisk (λ i disk. inl disk) (g.met.H.Host.sound c.args.host.now) c.in_ok-is_unborn_disk.ensures.looks

pub returns-in_err-make-clause-begins : goal.returns-in_err-make-clause-begins
returns-in_err-make-clause-begins g c = begins_behind_look (g.met.H.Host.sound c.args.host.now) c.in_ok-is_unborn_disk.ensures.looks c.in_err-make.ensures.begins

pub returns-clause-begins : goal.returns-clause-begins
returns-clause-begins g c = begins_behind_look (g.met.H.Host.sound c.args.host.now) c.in_ok-is_unborn_disk.ensures.looks c.in_ok-make.ensures.begins

pub returns-in_err-make-clause-spares : goal.returns-in_err-make-clause-spares
returns-in_err-make-clause-spares g c = λ f born. absurd (born (rw c.if-not-branch.false at (c.in_ok-is_unborn_disk.ensures.unborn f)))

pub returns-clause-rests : goal.returns-clause-rests
returns-clause-rests g c = λ h rests.
    let looks = c.in_ok-is_unborn_disk.ensures.looks in
    c.in_ok-make.ensures.rests (still_honest looks.quiet.keeps h) (rests_after_same (looks.moves h) (looks.same ((g.met.H.Host.sound c.args.host.now).faithful h)) rests)

pub returns-clause-new_store : goal.returns-clause-new_store
returns-clause-new_store g c = λ f.
    let looks = c.in_ok-is_unborn_disk.ensures.looks in
    c.in_ok-make.ensures.new_store (still_faithful looks.quiet.keeps f) (subst IsUnbornDisk (sym (looks.same f)) (rw c.if-not-branch.false at (c.in_ok-is_unborn_disk.ensures.unborn f)))
