use Rattle.std.proofs.Common.{ℕ, List, subst}
use Rattle.std.proofs.lemmas.Result.{on_ok_weaker}
use Rattle.state_reader.specs.Reads.{reading_of}
use Rattle.state_reader.specs.Still.{ground_of}
use Rattle.plain_state.specs.Logs.{HaveLogsAmong, AreTold, AreSortedThere}
use Rattle.plain_state.proofs.LogLemmas.{logs_there}
use Rattle.plain_state.proofs.logs.check_logs.Goals as goal

pub returns-clause-ok : goal.returns-clause-ok
returns-clause-ok c =
    let known = ground_of c.args.still.now in
    let listed = c.in_ok-listed.listed.items in
    let sorted = c.in_ok-listed_sorted.listed_sorted.items in
    let named = subst (λ (l : List (List ℕ)). HaveLogsAmong l c.args.records.now) c.deref.ensures.value c.in_ok-check_listed.ensures.ok in
    let told = subst (AreTold known) c.deref-2.ensures.value c.in_ok-check_told.ensures.ok in
    on_ok_weaker c.check_sorted.result (λ (there : AreSortedThere known c.deref-3.result.now c.deref-4.result.now).
    logs_there known (reading_of c.args.read.now) c.args.records.now listed sorted c.requires.records c.in_ok-listed.ensures c.in_ok-listed_sorted.ensures named told
    (subst (λ (l : List (List ℕ)). AreSortedThere known l sorted) c.deref-3.ensures.value (subst (AreSortedThere known c.deref-3.result.now) c.deref-4.ensures.value there))) c.check_sorted.ensures.ok
