use Rattle.std.proofs.Common.{inl, inr, ⊎_elim, ◌∙◌, ap, rules}
use Rattle.shell.proofs.WordsLemmas.{same_init}
use Rattle.shell.proofs.HeadlineLemmas.{headline}
use Rattle.shell.proofs.MeetsLemmas.{meets}
use Rattle.shell.proofs.CompleteLemmas.{complete, complete_unbegun}
use Rattle.shell.proofs.UnbegunLemmas.{headline_unbegun, meets_unbegun}
use Rattle.shell.proofs.running.run.Goals as goal
use Rattle.shell.proofs.running.run.Goals.{in-Ok, in-Err-Usage, in-Err-NoMemory}

pub returns-clause-runs : goal.returns-clause-runs
returns-clause-runs g c form is = elim c.match-read_words.branch [
  | in-Ok w ↦
      let own = rw w.in-Ok.is at c.read_words.ensures.form in
      inl (rw (w.outcome-is, w.host-is, same_init c.args.words.now form w.in-Ok.form is own) w.run_store-outcome.ensures)
  | in-Err-Usage w ↦ search rules
  | in-Err-NoMemory w ↦ inr (record { outcome_is = w.outcome-is ∙ w.stopped-outcome.ensures; same = w.host-is })
]

pub returns-clause-meets : goal.returns-clause-meets
returns-clause-meets g c form is faithful tables begins =
    let first = g.H.Host.state c.args.host in
    let now = g.H.Host.state c.match-read_words.host in
    ⊎_elim
    (λ runs. meets form.init first now tables c.match-read_words.outcome faithful begins runs)
    (λ short. meets_unbegun form.init first now tables c.match-read_words.outcome begins short.outcome_is (ap (λ h. g.H.Host.state h) short.same))
    (returns-clause-runs g c form is)

pub returns-clause-headline : goal.returns-clause-headline
returns-clause-headline g c form is honest rests tables begins =
    let first = g.H.Host.state c.args.host in
    let now = g.H.Host.state c.match-read_words.host in
    let sound = g.met.H.Host.sound c.args.host in
    ⊎_elim
    (λ runs. headline form.init first now tables c.match-read_words.outcome sound honest rests begins runs)
    (λ short. headline_unbegun form.init first now tables c.match-read_words.outcome sound honest rests begins short.outcome_is (ap (λ h. g.H.Host.state h) short.same))
    (returns-clause-runs g c form is)

pub returns-clause-complete : goal.returns-clause-complete
returns-clause-complete g c form is free =
    ⊎_elim
    (λ runs. complete form.init (g.H.Host.state c.args.host) (g.H.Host.state c.match-read_words.host) c.match-read_words.outcome free runs)
    (λ short. complete_unbegun c.match-read_words.outcome short.outcome_is)
    (returns-clause-runs g c form is)
