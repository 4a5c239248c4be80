-- Logs as journals of mutations.
use Rattle.std.proofs.Common.{◌≡◌, ◌≢◌, inl, inr, ℕ, zero, suc, ◌+◌, ◌^◌, ◌<◌, List, [], ◌∷◌, ◌++◌, length, get_or, take, map, All, Result, refl, sym, ◌∙◌, ap, subst, arith}
use Rattle.std.proofs.lemmas.List.{map-append, take_more}
use Rattle.std.proofs.lemmas.List.Elements.{All-nil, All-cons, All-head, All-tail, All-push, All-weaker}
use Rattle.std.proofs.lemmas.Option.{same_Some}
use Rattle.std.proofs.lemmas.Result.{on_ok_weaker}
use Rattle.host_model.specs.Picture.{Image}
use Rattle.host_model.specs.State.{HostState}
use Rattle.host_model.specs.declared.fault.Stop.{Stop}
use Rattle.host_model.specs.declared.fault.Stop.TheVariants.{Host, Damaged, Full, NoMemory}
use Rattle.host_model.proofs.LeavesLemmas.{leaves_weaker}
use Rattle.journal_core.specs.Records.{spelled, HasRecords}
use Rattle.journal_core.specs.Journal.{Holds, HasThere, HasEither, IsDamaged, Appends, OpenCause}
use Rattle.journal_core.proofs.ReadingLemmas.{one_list}
use Rattle.metadata_schema.specs.declared.mutation.Mutation.{Mutation}
use Rattle.log_files.specs.Mutations.{Bytes, spelled_mutation, IsSpelled, IsMutation, IsLogged}
use Rattle.log_files.specs.Logs.{IsLog, HasLog, HoldsLog, IsNoLog, HasLogEither, AppendsMutation, ReadCause}
use Rattle.log_files.specs.Parts.{IsEntry, IsNoEntry, AreMutations, AreNoMutations}
use Rattle.log_files.proofs.MutationLemmas.{one_mutation}

abbrev records_of : List Mutation → List Bytes
records_of ms = map spelled_mutation ms

spelled-push : (ms : List Mutation) (m : Mutation) → records_of (ms ++ m ∷ []) ≡ records_of ms ++ spelled_mutation m ∷ []
spelled-push ms m = map-append spelled_mutation ms (m ∷ [])

-- ---- records and mutations

pub same_mutations : (xs ys : List Mutation) → All IsSpelled xs → All IsSpelled ys → records_of xs ≡ records_of ys → xs ≡ ys
same_mutations [] [] one two e = refl
same_mutations [] (y ∷ ys) one two e = cc
same_mutations (x ∷ xs) [] one two e = cc
same_mutations (x ∷ xs) (y ∷ ys) one two e =
    let first : spelled_mutation x ≡ spelled_mutation y = cc in
    let rest : records_of xs ≡ records_of ys = cc in
    let head = one_mutation (spelled_mutation x) x y (record { is = refl; spelled = All-head IsSpelled x xs one }) (record { is = first; spelled = All-head IsSpelled y ys two }) in
    let tail = same_mutations xs ys (All-tail IsSpelled x xs one) (All-tail IsSpelled y ys two) rest in
    λ i. head i ∷ tail i

pub logged : (ms : List Mutation) → All IsSpelled ms → All (λ record_. length record_ < 2 ^ 32) (records_of ms) → All IsLogged ms
logged [] each short = All-nil IsLogged
logged (m ∷ ms) each short =
    All-cons IsLogged m ms (record { spelled = All-head IsSpelled m ms each; short = All-head (λ (r : Bytes). length r < 2 ^ 32) (spelled_mutation m) (records_of ms) short })
    (logged ms (All-tail IsSpelled m ms each) (All-tail (λ (r : Bytes). length r < 2 ^ 32) (spelled_mutation m) (records_of ms) short))

pub all_spelled : (ms : List Mutation) → All IsLogged ms → All IsSpelled ms
all_spelled ms all = All-weaker IsLogged IsSpelled (λ m is. is.spelled) ms all

-- ---- laws

pub one_log : (bytes : Bytes) (one other : List Mutation) → IsLog bytes one → IsLog bytes other → one ≡ other
one_log bytes one other first second = same_mutations one other first.each second.each (one_list bytes (records_of one) (records_of other) first.records second.records)

pub free_behind : (bytes rest : Bytes) (gate : ℕ) (ms : List Mutation) → IsLog bytes ms → gate ≢ 1 → IsLog (spelled (records_of ms) ++ gate ∷ rest) ms
free_behind bytes rest gate ms is shut = record { records = record { gate = gate; rest = rest; shut = shut; is = refl; short = is.records.short }; each = is.each }

-- ---- appends

holds_one_more : {log : Bytes} {end : ℕ} (ms : List Mutation) (m : Mutation) {image : Image} → All IsSpelled ms → IsSpelled m → Holds log end (records_of ms ++ spelled_mutation m ∷ []) image → HoldsLog log end (ms ++ m ∷ []) image
holds_one_more {log} {end} ms m {image} each one holds = record { holds = subst (λ rs. Holds log end rs image) (sym (spelled-push ms m)) holds; each = All-push IsSpelled ms m each one }

there : {log : Bytes} (ms : List Mutation) {image : Image} → All IsSpelled ms → HasThere log (records_of ms) image → HasLog log ms image
there ms each has = record { bytes = has.file; there = has.is; is_log = record { records = has.has; each = each } }

there_one_more : {log : Bytes} (ms : List Mutation) (m : Mutation) {image : Image} → All IsSpelled ms → IsSpelled m → HasThere log (records_of ms ++ spelled_mutation m ∷ []) image → HasLog log (ms ++ m ∷ []) image
there_one_more {log} ms m {image} each one has = there (ms ++ m ∷ []) (All-push IsSpelled ms m each one) (subst (λ rs. HasThere log rs image) (sym (spelled-push ms m)) has)

either : {log : Bytes} (ms : List Mutation) (m : Mutation) {image : Image} → All IsSpelled ms → IsSpelled m → HasEither log (records_of ms) (spelled_mutation m) image → HasLogEither log ms m image
either ms m each one (inl has) = inl (there ms each has)
either ms m each one (inr has) = inr (there_one_more ms m each one has)

of_spelling : {log : Bytes} {end : ℕ} (ms : List Mutation) (m : Mutation) {T E : Type 0} {result : Result T E} {a b : HostState} → IsSpelled m → HoldsLog log end ms a.files
    → Appends log end (records_of ms) (spelled_mutation m) result a b → AppendsMutation log end ms m result a b
of_spelling ms m {result = result} one holds appends = record {
  done = λ f. on_ok_weaker result (holds_one_more ms m holds.each one) (appends.done f);
  tried = λ f. either ms m holds.each one (appends.tried f);
  crash = λ h s. leaves_weaker (appends.crash h s) (λ p has. either ms m holds.each one has);
  lasts = λ h. on_ok_weaker result (λ all p now. there_one_more ms m holds.each one (all p now)) (appends.lasts h);
}

pub appends_mutation : (log framed : Bytes) (end : ℕ) (ms : List Mutation) (m : Mutation) {T E : Type 0} (result : Result T E) (a b : HostState) → IsMutation framed m → HoldsLog log end ms a.files
    → ((records : List Bytes) → Holds log end records a.files → Appends log end records framed result a b) → AppendsMutation log end ms m result a b
appends_mutation log framed end ms m result a b is holds appends =
    of_spelling ms m is.spelled holds (subst (λ bytes. Appends log end (records_of ms) bytes result a b) is.is (appends (records_of ms) holds.holds))

-- ---- reading

pub has_log : {log : Bytes} {end : ℕ} {records : List Bytes} {ms : List Mutation} {image : Image} → Holds log end records image → AreMutations records ms → HasLog log ms image
has_log {records = records} {ms = ms} holds are = there ms (all_spelled ms are.each) (record { file = holds.file; is = holds.is; has = subst (λ rs. HasRecords holds.file rs) are.is holds.ends.has })

pub no_mutations : {log : Bytes} {end : ℕ} {records : List Bytes} {image : Image} → Holds log end records image → AreNoMutations records → IsNoLog log image
no_mutations {records = records} holds none = record {
  none = λ ms has.
      let records_are = one_list has.bytes records (records_of ms) (subst (λ file. HasRecords file records) (same_Some _ _ (sym holds.is ∙ has.there)) holds.ends.has) has.is_log.records in
      none.none ms records_are (logged ms has.is_log.each has.is_log.records.short);
}

pub no_journal : {log : Bytes} {image : Image} → IsDamaged log image → IsNoLog log image
no_journal damaged = record {
  none = λ ms has. damaged.none (length (spelled (records_of ms))) (records_of ms) (record { file = has.bytes; is = has.there; ends = record { has = has.is_log.records; counts = refl } });
}

pub not_opened : (log : Bytes) (stop : Stop) (a b : HostState) → OpenCause log stop a b → ReadCause log (IsNoLog log a.files) stop a b
not_opened log (Host fault) a b cause = cause
not_opened log (Damaged name) a b cause = (cause.0, λ f. no_journal (cause.1 f))
not_opened log Full a b cause = cause
not_opened log NoMemory a b cause = cause

-- ---- the records of a log, one by one

no_first : (x : Bytes) (xs : List Bytes) → IsNoEntry x → AreNoMutations (x ∷ xs)
no_first x xs lacks = record { none = by }
  where
    by : (ms : List Mutation) → x ∷ xs ≡ records_of ms → All IsLogged ms → ⊥
    by [] e all = absurd cc
    by (m ∷ ms) e all = let first : x ≡ spelled_mutation m = cc in lacks.none m (record { is = first; logged = All-head IsLogged m ms all })

no_later : (x : Bytes) (xs : List Bytes) → AreNoMutations xs → AreNoMutations (x ∷ xs)
no_later x xs lacks = record { none = by }
  where
    by : (ms : List Mutation) → x ∷ xs ≡ records_of ms → All IsLogged ms → ⊥
    by [] e all = absurd cc
    by (m ∷ ms) e all = let rest : xs ≡ records_of ms = cc in lacks.none ms rest (All-tail IsLogged m ms all)

pub no_record : (records : List Bytes) (i : ℕ) (r : Bytes) → i < length records → r ≡ get_or records i r → IsNoEntry r → AreNoMutations records
no_record [] i r within is lacks = absurd (omega arith)
no_record (x ∷ xs) zero r within is lacks = no_first x xs (subst IsNoEntry is lacks)
no_record (x ∷ xs) (suc i) r within is lacks = no_later x xs (no_record xs i r (omega arith) is lacks)

pub one_more : (records : List Bytes) (i : ℕ) (r : Bytes) (ms : List Mutation) (m : Mutation) → i < length records → r ≡ get_or records i r → AreMutations (take i records) ms → IsEntry r m → AreMutations (take (i + 1) records) (ms ++ m ∷ [])
one_more records i r ms m within is so one = record {
  is = take_more records i r within ∙ ap (λ x. take i records ++ x ∷ []) (sym is ∙ one.is) ∙ ap (λ l. l ++ spelled_mutation m ∷ []) so.is ∙ sym (spelled-push ms m);
  each = All-push IsLogged ms m so.each one.logged;
}
