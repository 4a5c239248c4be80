use Rattle.std.proofs.Common.{ℕ, ◌<◌, ◌^◌, [], ◌∷◌, sym, subst}
use Rattle.tablet_scan.specs.Times.{IsGreatestIn}
use Rattle.tablet_scan.proofs.LoadLemmas.{greatest_timed, greatest_read, fits_cells}
use Rattle.tablet_scan.proofs.times.greatest_of.Goals as goal

pub returns-in_ok-check-in-Some-clause-greatest : goal.returns-in_ok-check-in-Some-clause-greatest
returns-in_ok-check-in-Some-clause-greatest g c = λ f. greatest_timed _ c.args.file.now c.in-Some.time c.in-Some.is

pub returns-in_ok-greatest-in-None-clause-greatest : goal.returns-in_ok-greatest-in-None-clause-greatest
returns-in_ok-greatest-in-None-clause-greatest g c = λ f.
    let read = c.in_ok-greatest-in-None.ensures in
    subst (IsGreatestIn (g.H.Host.state c.args.ground.now.host).files (c.args.file.now ∷ [])) (sym read.greatest) (greatest_read _ c.args.file.now c.in_ok-greatest-in-None.field-0.cells c.in-None.is (read.holds f))

pub returns-in_ok-greatest-in-None-clause-fits : goal.returns-in_ok-greatest-in-None-clause-fits
returns-in_ok-greatest-in-None-clause-fits g c =
    let read = c.in_ok-greatest-in-None.ensures in
    subst (λ (n : ℕ). n < 2 ^ 63) (sym read.greatest) (fits_cells c.in_ok-greatest-in-None.field-0.cells read.cells.each)
