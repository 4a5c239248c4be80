use Rattle.std.proofs.Common.{◌∙◌, sym, ap, rules, List, ℕ, subst, ◌∷◌, []}
use Rattle.std.specs.Prelude.{MatchResult}
use Rattle.std.specs.List.{All}
use Rattle.metadata_schema.specs.declared.mutation.Update.{Update}
use Rattle.metadata_schema.specs.Kinds.{IsHolderFamily, IsColumn, IsValued}
use Rattle.metadata_schema.specs.Refusals.{Refuses}
use Rattle.metadata_schema.specs.Columns.{written}
use Rattle.metadata_schema.proofs.ReadingLemmas.{only_one, only_family, match_more}
use Rattle.metadata_schema.proofs.holders.read_holder.Goals as goal

pub read_one-requires-clause-family : goal.read_one-requires-clause-family
read_one-requires-clause-family c = subst IsHolderFamily (sym (only_family c.args.family.now c.args.updates.now c.in-Some.update.now c.in-Some.ensures)) c.requires.family

pub read_one-requires-clause-column : goal.read_one-requires-clause-column
read_one-requires-clause-column c = only_one (λ update. IsColumn update.family update.qualifier) c.args.family.now c.args.updates.now c.in-Some.update.now c.in-Some.ensures c.requires.columns

pub returns-in_err-holder-in-Some : goal.returns-in_err-holder-in-Some
returns-in_err-holder-in-Some c =
    let refused : MatchResult c.from_residual.result _ (Refuses (IsValued c.in-Some.update.now)) = search rules in
    match_more _ (IsValued c.in-Some.update.now) (All IsValued c.args.updates.now) c.from_residual.result (only_one IsValued c.args.family.now c.args.updates.now c.in-Some.update.now c.in-Some.ensures) refused

pub returns-in_ok-holder-in-Some : goal.returns-in_ok-holder-in-Some
returns-in_ok-holder-in-Some c =
    let u = c.in-Some.update.now in
    let h = c.in_ok-holder-in-Some.holder in
    let family = only_family c.args.family.now c.args.updates.now u c.in-Some.ensures in (
      ap (λ (f : List ℕ). written f h.session h.server ∷ []) (sym family) ∙ ap (λ (v : Update). v ∷ []) c.in_ok-holder-in-Some.ensures.0 ∙ sym c.in-Some.ensures,
      c.in_ok-holder-in-Some.ensures.1,
    )
