use Rattle.std.proofs.Common.{◌≡◌, ◌∙◌, ◌+◌, max, take, refl, sym, subst, [], ◌∷◌, arith}
use Rattle.std.proofs.lemmas.List.{take_all}
use Rattle.std.proofs.lemmas.Result.{err_from_is_err_and}
use Rattle.data_files.proofs.OrderLemmas.{ord_max-nat}
use Rattle.tablet_scan.proofs.BehindLemmas.{acts_behind}
use Rattle.tablet_scan.specs.Files.{FilesCause}
use Rattle.tablet_scan.specs.Times.{IsGreatestIn, untimed}
use Rattle.tablet_scan.proofs.FilesLemmas.{seen_before}
use Rattle.tablet_scan.proofs.LoadLemmas.{greatest_more, none_later, stop_untimed}
use Rattle.tablet_scan.proofs.times.greatest_time.Goals as goal

pub returns-in_err-own-clause-acts : goal.returns-in_err-own-clause-acts
returns-in_err-own-clause-acts g c =
    let p = err_from_is_err_and c.from_residual-in_err-own.result c.from_residual-in_err-own.ensures.1 in
    rw (p.1, p.2) (acts_behind g.H.Host.state (g.met.H.Host.sound c.args.ground.now.host) (λ i. refl) c.loop-file.invariant.looked c.in_err-own.ensures.acts)

pub returns-in_err-own-clause-stops : goal.returns-in_err-own-clause-stops
returns-in_err-own-clause-stops g c = λ alive.
    let p = err_from_is_err_and c.from_residual-in_err-own.result c.from_residual-in_err-own.ensures.1 in
    let looked = c.loop-file.invariant.looked.goes alive in
    let before = g.H.Host.state c.args.ground.now.host in
    let now = g.H.Host.state c.greatest_of.new.ground.host in
    rw (p.1, p.2) (subst (λ files. FilesCause (untimed files) c.in_err-own.field-0.0 before now) c.as_slice-file-items.ensures
    (stop_untimed c.as_slice-file-items.result.now c.loop-file.file-index c.file-item.result c.loop-file-test.true c.file-item.is c.loop-file.greatest c.in_err-own.field-0.0 before (g.H.Host.state c.loop-file.ground.host) now looked.quiet.keeps looked.tried
    c.loop-file.invariant.greatest (c.in_err-own.ensures.read looked.goes_on) (c.in_err-own.ensures.stops looked.goes_on)))

pub loop-file-preserved : goal.loop-file-preserved
loop-file-preserved g c =
    let larger : c.max-greatest.result ≡ max c.loop-file.greatest c.in_ok-own.own = c.max-greatest.ensures ∙ ord_max-nat c.loop-file.greatest c.in_ok-own.own in
    let few = c.loop-file.invariant.fits in
    let own = c.in_ok-own.ensures.fits in
    record {
      looked = acts_behind g.H.Host.state (g.met.H.Host.sound c.args.ground.now.host) (λ i. refl) c.loop-file.invariant.looked c.in_ok-own.ensures.acts;
      same = (c.in_ok-own.ensures.same.0 ∙ c.loop-file.invariant.same.0, c.in_ok-own.ensures.same.1 ∙ c.loop-file.invariant.same.1);
      greatest = λ f. subst (IsGreatestIn (g.H.Host.state c.args.ground.now.host).files (take (c.loop-file.file-index + 1) c.as_slice-file-items.result.now)) (sym larger)
          (greatest_more _ c.as_slice-file-items.result.now c.loop-file.file-index c.file-item.result c.loop-file-test.true c.file-item.is c.loop-file.greatest c.in_ok-own.own (c.loop-file.invariant.greatest f)
          (seen_before g.H.Host.state (λ image. IsGreatestIn image (c.file-item.result ∷ []) c.in_ok-own.own) c.loop-file.invariant.looked f c.in_ok-own.ensures.greatest));
      fits = omega (arith, larger, few, own);
    }

pub returns-clause-last : goal.returns-clause-last
returns-clause-last g c = λ f cells all.
    none_later (g.H.Host.state c.args.ground.now.host).files c.args.tablet.now.files c.loop-file.greatest
    (subst (λ files. IsGreatestIn (g.H.Host.state c.args.ground.now.host).files files c.loop-file.greatest) (take_all c.loop-file.file-index c.as_slice-file-items.result.now c.loop-file-test.false ∙ c.as_slice-file-items.ensures) (c.loop-file.invariant.greatest f))
    cells all
