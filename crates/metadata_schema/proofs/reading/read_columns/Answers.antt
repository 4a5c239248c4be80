use Rattle.std.proofs.Common.{◌≡◌, ◌∙◌, sym, ap, rules, List, ℕ, Option, Some}
use Rattle.std.specs.Prelude.{codes, MatchResult, IfSome}
use Rattle.std.specs.Option.{option_copied}
use Rattle.row_keys.specs.MetadataRow.{IsPrevValue}
use Rattle.metadata_schema.specs.Paths.{IsDirectory}
use Rattle.metadata_schema.specs.Values.{IsNumberText, IsBarValue}
use Rattle.metadata_schema.specs.declared.tablet.TabletRecord.{TabletRecord}
use Rattle.metadata_schema.specs.Refusals.{Refuses, HasValues}
use Rattle.metadata_schema.proofs.ReadingLemmas.{match_more}
use Rattle.metadata_schema.proofs.RecordLemmas.{AreSpelled, columns_are, lists_in_order, form_at, if_form_at}
use Rattle.metadata_schema.proofs.reading.read_columns.Goals as goal

abbrev IsPrev : List ℕ → Type 0
IsPrev value = (prev : Option (List ℕ)) × IsPrevValue prev value

pub returns-in_err-dir : goal.returns-in_err-dir
returns-in_err-dir c =
    let us = c.args.updates.now in
    let value = c.in-Some-Some-Some.dir.now in
    let refused : MatchResult c.from_residual-in_err-dir.result _ (Refuses (IsDirectory value)) = search rules in
    match_more _ (IsDirectory value) (HasValues us) c.from_residual-in_err-dir.result (λ values. form_at us (codes "srv") (codes "dir") value values.values (sym c.in-Some-Some-Some.ensures)) refused

pub returns-in_err-time : goal.returns-in_err-time
returns-in_err-time c =
    let us = c.args.updates.now in
    let value = c.in-Some-Some-Some.time.now in
    let refused : MatchResult c.from_residual-in_err-time.result _ (Refuses (IsBarValue value)) = search rules in
    match_more _ (IsBarValue value) (HasValues us) c.from_residual-in_err-time.result (λ values. form_at us (codes "srv") (codes "time") value values.values (sym c.in-Some-Some-Some.ensures')) refused

pub returns-in_err-prev : goal.returns-in_err-prev
returns-in_err-prev c =
    let us = c.args.updates.now in
    let value = c.in-Some-Some-Some.prev.now in
    let refused : MatchResult c.from_residual-in_err-prev.result _ (Refuses (IsPrev value)) = search rules in
    match_more _ (IsPrev value) (HasValues us) c.from_residual-in_err-prev.result (λ values. form_at us (codes "~tab") (codes "~pr") value values.values (sym c.in-Some-Some-Some.ensures'')) refused

pub returns-in_err-old_prev : goal.returns-in_err-old_prev
returns-in_err-old_prev c =
    let us = c.args.updates.now in
    let value = option_copied c.value_at-4.result in
    let refused : MatchResult c.from_residual-in_err-old_prev.result _ (Refuses (IfSome value IsPrev)) = search rules in
    match_more _ (IfSome value IsPrev) (HasValues us) c.from_residual-in_err-old_prev.result (λ values. if_form_at us (codes "~tab") (codes "oldprevrow") value values.values c.value_at-4.ensures) refused

pub returns-in_err-merged : goal.returns-in_err-merged
returns-in_err-merged c =
    let us = c.args.updates.now in
    let value = option_copied c.value_at-5.result in
    let refused : MatchResult c.from_residual-in_err-merged.result _ (Refuses (IfSome value IsNumberText)) = search rules in
    match_more _ (IfSome value IsNumberText) (HasValues us) c.from_residual-in_err-merged.result (λ values. if_form_at us (codes "~tab") (codes "merged") value values.values c.value_at-5.ensures) refused

pub returns-in_err-chopped : goal.returns-in_err-chopped
returns-in_err-chopped c =
    let us = c.args.updates.now in
    let value = option_copied c.value_at-6.result in
    let refused : MatchResult c.from_residual-in_err-chopped.result _ (Refuses (IfSome value (λ text. text ≡ codes "chopped"))) = search rules in
    match_more _ (IfSome value (λ text. text ≡ codes "chopped")) (HasValues us) c.from_residual-in_err-chopped.result
    (λ values. if_form_at us (codes "chopped") (codes "chopped") value values.values c.value_at-6.ensures) refused

pub returns : goal.returns
returns c =
    let us = c.args.updates.now in
    let tablet : TabletRecord = record {
      table = c.in_ok-table.table;
      end = c.in_ok-table.end;
      prev = c.in_ok-prev.prev;
      old_prev = c.in_ok-old_prev.old_prev;
      dir = c.in_ok-dir.dir;
      time = c.in_ok-time.time;
      loc = c.in_ok-loc.loc;
      future = c.in_ok-future.future;
      files = c.in_ok-files.files;
      logs = c.in_ok-logs.logs;
      loaded = c.in_ok-loaded.loaded;
      chopped = c.in_ok-chopped.chopped;
      merged = c.in_ok-merged.merged;
    } in
    let spelled : AreSpelled us tablet = record {
      chopped = sym c.value_at-6.ensures ∙ c.in_ok-chopped.ensures;
      files = c.in_ok-files.ensures.0;
      future = c.in_ok-future.ensures.0;
      loaded = c.in_ok-loaded.ensures.0;
      loc = c.in_ok-loc.ensures.0;
      logs = c.in_ok-logs.ensures.0;
      dir = sym c.in-Some-Some-Some.ensures ∙ ap Some c.in_ok-dir.ensures.0;
      time = sym c.in-Some-Some-Some.ensures' ∙ ap Some c.in_ok-time.ensures.1;
      merged = sym c.value_at-5.ensures ∙ c.in_ok-merged.ensures.0;
      old_prev = sym c.value_at-4.ensures ∙ c.in_ok-old_prev.ensures.0;
      prev = sym c.in-Some-Some-Some.ensures'' ∙ ap Some c.in_ok-prev.ensures.is;
    } in
    record {
      named = c.in_ok-table.ensures;
      spelled = columns_are us tablet c.requires.given c.requires.columns.columns spelled;
      form = record {
        order = lists_in_order us tablet c.requires.given spelled;
        dir = c.in_ok-dir.ensures.1;
        bar = c.in_ok-time.ensures.0;
        prev = c.in_ok-prev.ensures.short;
        old_prev = c.in_ok-old_prev.ensures.1;
        merged = c.in_ok-merged.ensures.1;
        loc = c.in_ok-loc.ensures.1;
        future = c.in_ok-future.ensures.1;
        files = c.in_ok-files.ensures.1;
        logs = c.in_ok-logs.ensures.1;
        loaded = c.in_ok-loaded.ensures.1;
      };
    }
