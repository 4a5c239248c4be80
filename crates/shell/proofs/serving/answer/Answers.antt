use Rattle.std.proofs.Common.{ℕ, List, Some, None, refl, ap}
use Rattle.std.proofs.lemmas.Result.{err_from_is_err_and}
use Rattle.script_words.specs.declared.line.Line.TheVariants.{Blank, Tables as ListTables, Unbuilt}
use Rattle.script_words.specs.declared.reply.Answer.TheVariants.{Rows, Refused}
use Rattle.script_words.specs.declared.reply.Refusal.TheVariants.{Unbuilt as NotBuilt}
use Rattle.shell.proofs.LineLemmas.{does_nothing, does_stop}
use Rattle.shell.proofs.serving.answer.Goals as goal

pub returns-in_err-table_texts-in-Tables : goal.returns-in_err-table_texts-in-Tables
returns-in_err-table_texts-in-Tables g c =
    let p = err_from_is_err_and c.from_residual.result c.from_residual.ensures.1 in
    rw (p.1, p.2) (does_stop _ _ _ _ (g.met.H.Host.sound c.args.host.now) c.requires.sure c.requires.doubt)

pub returns-in-Blank : goal.returns-in-Blank
returns-in-Blank g c = rw c.in-Blank.is (does_nothing _ Blank _ _ (g.met.H.Host.sound c.args.host.now) c.requires.sure None c.requires.running c.requires.doubt refl refl refl)

pub returns-in_ok-table_texts-in-Tables : goal.returns-in_ok-table_texts-in-Tables
returns-in_ok-table_texts-in-Tables g c =
    let rows = ap (λ (t : List (List ℕ)). Some (Rows t)) c.in_ok-table_texts-in-Tables.ensures in
    rw c.in-Tables.is (does_nothing _ ListTables _ _ (g.met.H.Host.sound c.args.host.now) c.requires.sure (Some (Rows c.in_ok-table_texts-in-Tables.field-0)) c.requires.running c.requires.doubt rows refl refl)

pub returns-in-Unbuilt : goal.returns-in-Unbuilt
returns-in-Unbuilt g c = rw c.in-Unbuilt.is (does_nothing _ Unbuilt _ _ (g.met.H.Host.sound c.args.host.now) c.requires.sure (Some (Refused NotBuilt)) c.requires.running c.requires.doubt refl refl refl)
