use Rattle.std.proofs.Common.{inl, inr, sym, ◌∙◌, ap}
use Rattle.std.proofs.lemmas.Bool.{cases_Bool}
use Rattle.std.proofs.lemmas.Result.{err_from_is_err_and}
use Rattle.table_store.specs.Tables.{is_taken}
use Rattle.shell.proofs.LineLemmas.{does_stop}
use Rattle.shell.proofs.CreateLemmas.{made_line, stopped_line, taken_line}
use Rattle.shell.proofs.serving.create.Goals as goal

pub returns-in_err-create_table : goal.returns-in_err-create_table
returns-in_err-create_table g c =
    let p = err_from_is_err_and c.from_residual-in_err-create_table.result c.from_residual-in_err-create_table.ensures.1 in
    elim (cases_Bool (is_taken c.args.name c.args.store.now.tables)) [
      | inl taken ↦ cc (sym c.in_err-create_table.was ∙ c.create_table.ensures.taken c.requires.running taken)
      | inr free ↦ rw (p.1, p.2) (stopped_line _ _ _ _ _ _ (g.met.H.Host.sound c.args.host.now) c.requires.sure free _ (c.in_err-create_table.ensures.alters free) c.in_err-create_table.ensures.history (c.in_err-create_table.ensures.stops c.requires.running)
          (λ own. ap g.H.Host.state (c.in_err-create_table.ensures.untouched own)))
    ]

pub returns-then-branch : goal.returns-then-branch
returns-then-branch g c =
    elim (cases_Bool (is_taken c.args.name c.args.store.now.tables)) [
      | inl taken ↦ let e = sym c.in_ok-create_table.was ∙ c.create_table.ensures.taken c.requires.running taken in cc e
      | inr free ↦ made_line _ _ _ _ _ _ (g.met.H.Host.sound c.args.host.now) c.requires.sure free (c.in_ok-create_table.ensures.alters free) (c.in_ok-create_table.ensures.created free) c.in_ok-create_table.ensures.stored c.in_ok-create_table.ensures.says (c.in_ok-create_table.ensures.last free)
    ]

pub returns-in_err-shown : goal.returns-in_err-shown
returns-in_err-shown g c =
    let p = err_from_is_err_and c.from_residual.result c.from_residual.ensures.1 in
    rw (p.1, p.2) (does_stop _ _ _ _ (g.met.H.Host.sound c.args.host.now) c.requires.sure c.requires.doubt)

pub returns : goal.returns
returns g c =
    elim (cases_Bool (is_taken c.args.name c.args.store.now.tables)) [
      | inl taken ↦
          let same = c.create_table.ensures.same taken in
          taken_line _ c.args.name c.in_ok-shown.shown _ _ _ _ (g.met.H.Host.sound c.args.host.now) c.requires.sure c.requires.running c.requires.doubt taken (c.in_ok-shown.ensures ∙ c.as_bytes.ensures.bytes) same.0 (ap g.H.Host.state same.1)
      | inr free ↦ let e = sym (c.in_ok-create_table.ensures.made free) ∙ c.if-branch.false in cc e
    ]
