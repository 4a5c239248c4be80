use Rattle.std.proofs.Common.{◌≡◌, ◌∙◌, ◌+◌, ◌++◌, cond, not, Bool, IsTrue, take, refl, sym, ap, subst}
use Rattle.std.proofs.lemmas.List.{take_all}
use Rattle.std.proofs.lemmas.Result.{err_from_is_err_and}
use Rattle.tablet_scan.proofs.BehindLemmas.{acts_behind}
use Rattle.tablet_scan.specs.Files.{HoldsTimed, HoldAll, FilesCause}
use Rattle.tablet_scan.proofs.FilesLemmas.{hold_more, seen_before, stop_at, none_bad, told_is}
use Rattle.tablet_scan.proofs.files.file_cells.Given.{Over}
use Rattle.tablet_scan.proofs.files.file_cells.Goals as goal

pub returns-in_err-cells-clause-acts : goal.returns-in_err-cells-clause-acts
returns-in_err-cells-clause-acts g c =
    let p = err_from_is_err_and c.from_residual-in_err-cells.result c.from_residual-in_err-cells.ensures.1 in
    rw (p.1, p.2) (acts_behind g.H.Host.state (g.met.H.Host.sound c.args.ground.now.host) (λ i. refl) c.loop-file.invariant.looked c.in_err-cells.ensures.acts)

pub returns-in_err-cells-clause-stops : goal.returns-in_err-cells-clause-stops
returns-in_err-cells-clause-stops g c = λ alive.
    let p = err_from_is_err_and c.from_residual-in_err-cells.result c.from_residual-in_err-cells.ensures.1 in
    let looked = c.loop-file.invariant.looked.goes alive in
    rw (p.1, p.2) (subst (λ files. FilesCause files c.in_err-cells.field-0.0 (g.H.Host.state c.args.ground.now.host) (g.H.Host.state c.read_timed.new.ground.host)) c.as_slice-file-items.ensures
    (stop_at c.as_slice-file-items.result.now c.loop-file.file-index c.file-item.result c.loop-file-test.true c.file-item.is c.loop-file.all.items c.in_err-cells.field-0.0 (g.H.Host.state c.args.ground.now.host) (g.H.Host.state c.loop-file.ground.host) (g.H.Host.state c.read_timed.new.ground.host) looked.quiet.keeps looked.tried c.loop-file.invariant.holds
    (c.in_err-cells.ensures.stops looked.goes_on)))

pub returns-then-is_err-clause-acts : goal.returns-then-is_err-clause-acts
returns-then-is_err-clause-acts g c =
    let sound = g.met.H.Host.sound c.args.ground.now.host in
    acts_behind g.H.Host.state sound (λ i. refl) (acts_behind g.H.Host.state sound (λ i. refl) c.loop-file.invariant.looked c.in_ok-cells.ensures.acts) c.stop.ensures.acts

pub loop-file-preserved : goal.loop-file-preserved
loop-file-preserved g c =
    let appended : c.append.new.self.items ≡ c.loop-file.all.items ++ c.in_ok-cells.cells.items =
    c.append.ensures.items ∙ ap (λ (b : Bool). cond b (c.loop-file.all.items ++ c.in_ok-cells.cells.items) c.loop-file.all.items) (c.is_err.ensures.negation ∙ ap not c.if-is_err.false) in
    record {
      looked = acts_behind g.H.Host.state (g.met.H.Host.sound c.args.ground.now.host) (λ i. refl) c.loop-file.invariant.looked c.in_ok-cells.ensures.acts;
      same = (c.in_ok-cells.ensures.same.0 ∙ c.loop-file.invariant.same.0, c.in_ok-cells.ensures.same.1 ∙ c.loop-file.invariant.same.1);
      holds = λ f. subst (HoldAll (g.H.Host.state c.args.ground.now.host).files (take (c.loop-file.file-index + 1) c.as_slice-file-items.result.now)) (sym appended)
          (hold_more _ c.as_slice-file-items.result.now c.loop-file.file-index c.file-item.result c.loop-file-test.true c.file-item.is c.loop-file.all.items c.in_ok-cells.cells.items (c.loop-file.invariant.holds f)
          (seen_before g.H.Host.state (λ image. HoldsTimed image c.file-item.result c.in_ok-cells.cells.items) c.loop-file.invariant.looked f c.in_ok-cells.ensures.holds));
    }

whole : (g : Over) (c : goal.After-loop-file g) → IsTrue (g.H.Host.state c.args.ground.now.host).is_faithful → HoldAll (g.H.Host.state c.args.ground.now.host).files c.args.tablet.now.files c.loop-file.all.items
whole g c f = subst (λ files. HoldAll (g.H.Host.state c.args.ground.now.host).files files c.loop-file.all.items) (take_all c.loop-file.file-index c.as_slice-file-items.result.now c.loop-file-test.false ∙ c.as_slice-file-items.ensures) (c.loop-file.invariant.holds f)

pub returns-clause-told : goal.returns-clause-told
returns-clause-told g c = λ f known told ground e. told_is _ known ground c.args.tablet.now.files c.loop-file.all.items told (whole g c f) e

pub returns-clause-bad : goal.returns-clause-bad
returns-clause-bad g c = λ f file there bad. absurd (none_bad _ c.args.tablet.now.files c.loop-file.all.items (whole g c f) file there bad)
