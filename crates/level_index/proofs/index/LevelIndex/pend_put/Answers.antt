use Rattle.std.proofs.Common.{◌≡◌, ◌∙◌, List, ℕ, Some, sym, ap, subst}
use Rattle.std.specs.Prelude.{is_some, IfSome}
use Rattle.std.specs.FinMap as map
use Rattle.level_index.specs.declared.entry.LevelEntry.{LevelEntry}
use Rattle.level_index.specs.Entries.{LevelMap, StandsAt}
use Rattle.level_index.specs.Value.{with_row}
use Rattle.level_index.proofs.MapLemmas.{there_with, put_back}
use Rattle.level_index.proofs.index.LevelIndex.pend_put.Goals as goal

made : (new self : LevelMap) (key row : List ℕ) (entry : LevelEntry) → key ≡ row → new ≡ with_row self key (Some entry) → new ≡ with_row self row (Some entry)
made new self key row entry same is = is ∙ ap (λ r. with_row self r (Some entry)) same

pub invariant_of-result : goal.invariant_of-result
invariant_of-result c =
    let now = made c.put.new.self c.args.self c.in-Ok.key c.args.row c.args.entry c.in-Ok.ensures c.in-Ok-put.ensures.ok in
    record {
      may = (
        ap (λ (m : LevelMap). is_some (map.get m.entries c.args.row)) now ∙ ap is_some (there_with c.args.self.entries c.args.row c.args.entry),
        subst (λ (m : LevelMap). IfSome c.in-Ok-put.was (StandsAt m.kind c.args.row)) (sym now) (subst (λ r. IfSome c.in-Ok-put.was (StandsAt c.args.self.kind r)) c.in-Ok.ensures c.in-Ok-put.ensures.own),
      );
    }

pub returns-in-Ok-put-clause-before : goal.returns-in-Ok-put-clause-before
returns-in-Ok-put-clause-before c =
    let now = made c.put.new.self c.args.self c.in-Ok.key c.args.row c.args.entry c.in-Ok.ensures c.in-Ok-put.ensures.ok in
    let was = c.in-Ok-put.ensures.was ∙ ap (map.get c.args.self.entries) c.in-Ok.ensures in
    ap (λ (m : LevelMap). with_row m c.args.row c.in-Ok-put.was) now ∙ (λ i. record { kind = c.args.self.kind; entries = put_back c.args.self.entries c.args.row (Some c.args.entry) c.in-Ok-put.was was i })
