use Rattle.std.proofs.Common.{rules}
use Rattle.std.specs.Prelude.{MatchResult}
use Rattle.metadata_schema.specs.Values.{IsNumberText, IsEntriesText, IsFileValue}
use Rattle.metadata_schema.specs.Refusals.{Refuses}
use Rattle.metadata_schema.proofs.ReadingLemmas.{match_more}
use Rattle.metadata_schema.proofs.NumberLemmas.{facts_parted}
use Rattle.metadata_schema.proofs.files.read_facts.Goals as goal

pub returns-in_err-size : goal.returns-in_err-size
returns-in_err-size c =
    let front = c.in-Some.size.now in
    let refused : MatchResult c.from_residual.result _ (Refuses (IsNumberText front)) = search rules in
    match_more _ (IsNumberText front) (IsFileValue c.args.value.now) c.from_residual.result (λ is. (facts_parted front c.in-Some.rest.now c.args.value.now c.in-Some.ensures is).0) refused

pub returns-in_err-entries : goal.returns-in_err-entries
returns-in_err-entries c =
    let back = c.in-Some.rest.now in
    let refused : MatchResult c.from_residual-in_err-entries.result _ (Refuses (IsEntriesText back)) = search rules in
    match_more _ (IsEntriesText back) (IsFileValue c.args.value.now) c.from_residual-in_err-entries.result (λ is. (facts_parted c.in-Some.size.now back c.args.value.now c.in-Some.ensures is).1) refused
