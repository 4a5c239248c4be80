use Rattle.std.proofs.Common.{rules}
use Rattle.std.specs.Prelude.{MatchResult}
use Rattle.metadata_schema.specs.Values.{IsNumberText, IsTimeText, IsEntriesText}
use Rattle.metadata_schema.specs.Refusals.{Refuses}
use Rattle.metadata_schema.proofs.ReadingLemmas.{match_more}
use Rattle.metadata_schema.proofs.NumberLemmas.{entries_parted}
use Rattle.metadata_schema.proofs.files.read_entries.Goals as goal

pub returns-in_err-entries-in-Some : goal.returns-in_err-entries-in-Some
returns-in_err-entries-in-Some c =
    let front = c.in-Some.entries.now in
    let refused : MatchResult c.from_residual.result _ (Refuses (IsNumberText front)) = search rules in
    match_more _ (IsNumberText front) (IsEntriesText c.args.text.now) c.from_residual.result (λ is. (entries_parted front c.in-Some.time.now c.args.text.now c.in-Some.ensures is).0) refused

pub returns-in_err-time-in-Some : goal.returns-in_err-time-in-Some
returns-in_err-time-in-Some c =
    let back = c.in-Some.time.now in
    let refused : MatchResult c.from_residual-in_err-time-in-Some.result _ (Refuses (IsTimeText back)) = search rules in
    match_more _ (IsTimeText back) (IsEntriesText c.args.text.now) c.from_residual-in_err-time-in-Some.result (λ is. (entries_parted c.in-Some.entries.now back c.args.text.now c.in-Some.ensures is).1) refused
