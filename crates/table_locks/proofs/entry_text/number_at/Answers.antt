use Rattle.std.proofs.Common.{sym, ◌∙◌, ap, subst, ◌++◌, length, drop, nat_eq, codes, rules}
use Rattle.std.specs.Cmp.Lexicographic.{pointwise}
use Rattle.table_locks.specs.Entries.{padded, queue_path}
use Rattle.table_locks.proofs.TextLemmas.{not_behind, number_found}
use Rattle.table_locks.proofs.entry_text.number_at.Goals as goal

pub returns-in_default : goal.returns-in_default
returns-in_default c = λ number small is.
    not_behind c.as_slice.result.now c.as_bytes.result.now (padded number) c.in_default.ensures.cases (c.as_bytes.ensures.bytes ∙ is ∙ ap (λ f. f ++ padded number) (sym (c.as_slice.ensures.value ∙ c.in_ok-front.ensures.bytes)))

pub returns : goal.returns
returns c =
    let from = c.in-Some.ensures.cases.1 ∙ ap (λ f. drop (length f) c.as_bytes.result.now) (c.as_slice.ensures.value ∙ c.in_ok-front.ensures.bytes) ∙ ap (λ p. drop (length (queue_path c.args.table.now ++ codes "/lock-")) p) c.as_bytes.ensures.bytes in
    let same = c.eq-same.ensures ∙ ap (λ p. pointwise nat_eq c.as_bytes-2.result.now p) c.as_bytes-3.ensures.bytes in
    rw c.then_some.ensures (number_found (queue_path c.args.table.now ++ codes "/lock-") c.args.path.now c.in-Some.digits.now c.as_bytes-2.result.now c.in-Some-parsed.number c.eq-same.result from (λ n small is. c.in-Some-parsed.ensures.padded n small is) (search rules) same)
