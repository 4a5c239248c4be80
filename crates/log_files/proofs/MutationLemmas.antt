-- What stands in front of bytes is one mutation, and one rest.
use Rattle.std.proofs.Common.{◌≡◌, inl, inr, ℕ, ◌^◌, ◌<◌, ◌≤◌, List, [], ◌++◌, length, sym, ◌∙◌, ap, subst, arith, append_assoc}
use Rattle.std.specs.Int.{w64}
use Rattle.std.proofs.lemmas.List.{append-nil}
use Rattle.row_keys.specs.Forms.{IsTableId}
use Rattle.bytes_form.specs.Fields.{number_field, short_field, long_field, Takes}
use Rattle.bytes_form.specs.PrefixFree.{IsPrefixFree}
use Rattle.bytes_form.proofs.FieldsLemmas.{IsPrefixFree-number}
use Rattle.metadata_schema.specs.declared.mutation.Update.{Update}
use Rattle.metadata_schema.specs.declared.mutation.Mutation.{Mutation}
use Rattle.log_files.specs.Mutations.{Bytes, spelled_updates, spelled_mutation, AreUpdates, FitsRow, FitsTime, IsSpelled, IsMutation}
use Rattle.log_files.specs.Parts.{Starts, StartsNone, IsNoMutation}
use Rattle.log_files.proofs.UpdateLemmas.{same_short, same_long, IsPrefixFree-updates}

-- ---- the fields in front

pub table_short : (table : Bytes) → IsTableId table → length table < 2 ^ 8
table_short table (inl is) = omega (arith, ap (length {A = ℕ}) is)
table_short table (inr (inl is)) = omega (arith, ap (length {A = ℕ}) is)
table_short table (inr (inr form)) = let most = form.most in omega (arith, most)

IsPrefixFree-table : IsPrefixFree IsTableId short_field
IsPrefixFree-table a b x y one two e = same_short a b x y (table_short a one) (table_short b two) e

IsPrefixFree-row : IsPrefixFree FitsRow long_field
IsPrefixFree-row a b x y one two e = same_long a b x y (omega (arith, one)) (omega (arith, two)) e

same_time : (a b : ℕ) (x y : Bytes) → a < 2 ^ 64 → b < 2 ^ 64 → number_field w64 a ++ x ≡ number_field w64 b ++ y → (a ≡ b) × (x ≡ y)
same_time a b x y one two e = IsPrefixFree-number w64 a b x y (omega (arith, one)) (omega (arith, two)) e

IsPrefixFree-time : IsPrefixFree FitsTime (number_field w64)
IsPrefixFree-time a b x y one two e = same_time a b x y (omega (arith, one)) (omega (arith, two)) e

pub other_table : (bytes table x : Bytes) → Takes (short_field table) x bytes → length table < 2 ^ 8 → (IsTableId table → ⊥) → StartsNone IsTableId short_field bytes
other_table bytes table x takes fits other = record {
  none = λ id rest starts.
      let same = (same_short table id x rest fits (table_short id starts.value_fits) (sym takes.is ∙ starts.is)).0 in
      other (subst IsTableId (sym same) starts.value_fits);
}

pub long_row : (bytes row x : Bytes) → Takes (long_field row) x bytes → length row < 2 ^ 16 → 300 < length row → StartsNone FitsRow long_field bytes
long_row bytes row x takes fits long = record {
  none = λ other rest starts.
      let most : length other ≤ 300 = starts.value_fits in
      let same = (same_long row other x rest fits (omega (arith, most)) (sym takes.is ∙ starts.is)).0 in
      omega (arith, long, most, ap (length {A = ℕ}) same);
}

pub late_time : (bytes : Bytes) (time : ℕ) (x : Bytes) → Takes (number_field w64 time) x bytes → time < 2 ^ 64 → 2 ^ 63 ≤ time → StartsNone FitsTime (number_field w64) bytes
late_time bytes time x takes fits late = record {
  none = λ other rest starts.
      let before : other < 2 ^ 63 = starts.value_fits in
      let same = (same_time time other x rest fits (omega (arith, before)) (sym takes.is ∙ starts.is)).0 in
      omega (arith, late, same, before);
}

-- ---- whole mutations

mutation_parts : (m : Mutation) (x : Bytes) → spelled_mutation m ++ x ≡ short_field m.table ++ (long_field m.row ++ (number_field w64 m.time ++ (spelled_updates m.updates ++ x)))
unfolding spelled_mutation
mutation_parts m x =
    append_assoc (short_field m.table ++ long_field m.row ++ number_field w64 m.time) (spelled_updates m.updates) x
    ∙ append_assoc (short_field m.table ++ long_field m.row) (number_field w64 m.time) (spelled_updates m.updates ++ x)
    ∙ append_assoc (short_field m.table) (long_field m.row) (number_field w64 m.time ++ (spelled_updates m.updates ++ x))

pub IsPrefixFree-mutation : IsPrefixFree IsSpelled spelled_mutation
IsPrefixFree-mutation a b x y one two e =
    let tables = IsPrefixFree-table a.table b.table (long_field a.row ++ (number_field w64 a.time ++ (spelled_updates a.updates ++ x))) (long_field b.row ++ (number_field w64 b.time ++ (spelled_updates b.updates ++ y))) one.table two.table
    (sym (mutation_parts a x) ∙ e ∙ mutation_parts b y) in
    let rows = IsPrefixFree-row a.row b.row (number_field w64 a.time ++ (spelled_updates a.updates ++ x)) (number_field w64 b.time ++ (spelled_updates b.updates ++ y)) one.row two.row tables.1 in
    let times = IsPrefixFree-time a.time b.time (spelled_updates a.updates ++ x) (spelled_updates b.updates ++ y) one.time two.time rows.1 in
    let updates = IsPrefixFree-updates a.updates b.updates x y one.updates two.updates times.1 in
    (λ i. record { table = tables.0 i; row = rows.0 i; time = times.0 i; updates = updates.0 i }, updates.1)

-- bytes are one mutation
pub one_mutation : (bytes : Bytes) (a b : Mutation) → IsMutation bytes a → IsMutation bytes b → a ≡ b
one_mutation bytes a b one two =
    (IsPrefixFree-mutation a b [] [] one.spelled two.spelled (append-nil (spelled_mutation a) ∙ sym one.is ∙ two.is ∙ sym (append-nil (spelled_mutation b)))).0

-- ---- a mutation that is read, field by field

its_parts : (bytes : Bytes) (m : Mutation) → IsMutation bytes m → bytes ≡ short_field m.table ++ (long_field m.row ++ (number_field w64 m.time ++ (spelled_updates m.updates ++ [])))
its_parts bytes m is = is.is ∙ sym (append-nil (spelled_mutation m)) ∙ mutation_parts m []

pub without_table : (bytes : Bytes) → StartsNone IsTableId short_field bytes → IsNoMutation bytes
without_table bytes none = record { none = λ m is. none.none m.table (long_field m.row ++ (number_field w64 m.time ++ (spelled_updates m.updates ++ []))) (record { is = its_parts bytes m is; value_fits = is.spelled.table }) }

behind_table : (bytes table x : Bytes) → Starts IsTableId short_field bytes table x → (m : Mutation) → IsMutation bytes m → (table ≡ m.table) × (x ≡ long_field m.row ++ (number_field w64 m.time ++ (spelled_updates m.updates ++ [])))
behind_table bytes table x one m is =
    IsPrefixFree-table table m.table x (long_field m.row ++ (number_field w64 m.time ++ (spelled_updates m.updates ++ []))) one.value_fits is.spelled.table (sym one.is ∙ its_parts bytes m is)

pub without_row : (bytes table x : Bytes) → Starts IsTableId short_field bytes table x → StartsNone FitsRow long_field x → IsNoMutation bytes
without_row bytes table x one none = record { none = λ m is. none.none m.row (number_field w64 m.time ++ (spelled_updates m.updates ++ [])) (record { is = (behind_table bytes table x one m is).1; value_fits = is.spelled.row }) }

behind_row : (bytes table x row y : Bytes) → Starts IsTableId short_field bytes table x → Starts FitsRow long_field x row y → (m : Mutation) → IsMutation bytes m → y ≡ number_field w64 m.time ++ (spelled_updates m.updates ++ [])
behind_row bytes table x row y one two m is =
    (IsPrefixFree-row row m.row y (number_field w64 m.time ++ (spelled_updates m.updates ++ [])) two.value_fits is.spelled.row (sym two.is ∙ (behind_table bytes table x one m is).1)).1

pub without_time : (bytes table x row y : Bytes) → Starts IsTableId short_field bytes table x → Starts FitsRow long_field x row y → StartsNone FitsTime (number_field w64) y → IsNoMutation bytes
without_time bytes table x row y one two none = record { none = λ m is. none.none m.time (spelled_updates m.updates ++ []) (record { is = behind_row bytes table x row y one two m is; value_fits = is.spelled.time }) }

behind_time : (bytes table x row y : Bytes) (time : ℕ) (z : Bytes) → Starts IsTableId short_field bytes table x → Starts FitsRow long_field x row y → Starts FitsTime (number_field w64) y time z → (m : Mutation) → IsMutation bytes m → z ≡ spelled_updates m.updates ++ []
behind_time bytes table x row y time z one two three m is =
    (IsPrefixFree-time time m.time z (spelled_updates m.updates ++ []) three.value_fits is.spelled.time (sym three.is ∙ behind_row bytes table x row y one two m is)).1

pub without_updates : (bytes table x row y : Bytes) (time : ℕ) (z : Bytes) → Starts IsTableId short_field bytes table x → Starts FitsRow long_field x row y → Starts FitsTime (number_field w64) y time z → StartsNone AreUpdates spelled_updates z → IsNoMutation bytes
without_updates bytes table x row y time z one two three none = record { none = λ m is. none.none m.updates [] (record { is = behind_time bytes table x row y time z one two three m is; value_fits = is.spelled.updates }) }

pub more_behind : (bytes table x row y : Bytes) (time : ℕ) (z : Bytes) (updates : List Update) (rest : Bytes) → Starts IsTableId short_field bytes table x → Starts FitsRow long_field x row y → Starts FitsTime (number_field w64) y time z → Starts AreUpdates spelled_updates z updates rest
    → (rest ≡ [] → ⊥) → IsNoMutation bytes
more_behind bytes table x row y time z updates rest one two three four more = record {
  none = λ m is. more (IsPrefixFree-updates updates m.updates rest [] four.value_fits is.spelled.updates (sym four.is ∙ behind_time bytes table x row y time z one two three m is)).1;
}

pub some_mutation : (bytes table x row y : Bytes) (time : ℕ) (z : Bytes) (updates : List Update) (rest : Bytes) → Starts IsTableId short_field bytes table x → Starts FitsRow long_field x row y → Starts FitsTime (number_field w64) y time z → Starts AreUpdates spelled_updates z updates rest
    → rest ≡ [] → IsMutation bytes (record { table = table; row = row; time = time; updates = updates })
some_mutation bytes table x row y time z updates rest one two three four end =
    let m : Mutation = record { table = table; row = row; time = time; updates = updates } in
    record {
      is =
          one.is ∙ ap (λ (l : Bytes). short_field table ++ l) (two.is ∙ ap (λ (l : Bytes). long_field row ++ l) (three.is ∙ ap (λ (l : Bytes). number_field w64 time ++ l) (four.is ∙ ap (λ (l : Bytes). spelled_updates updates ++ l) end)))
          ∙ sym (mutation_parts m []) ∙ append-nil (spelled_mutation m);
      spelled = record { table = one.value_fits; row = two.value_fits; time = three.value_fits; updates = four.value_fits };
    }

pub mutation_put : (m : Mutation) (start a b c new : Bytes) → start ≡ [] → a ≡ start ++ short_field m.table → b ≡ a ++ long_field m.row → c ≡ b ++ number_field w64 m.time → new ≡ c ++ spelled_updates m.updates → new ≡ spelled_mutation m
unfolding spelled_mutation
mutation_put m start a b c new none one two three four =
    four ∙ ap (λ (l : Bytes). l ++ spelled_updates m.updates) (three ∙ ap (λ (l : Bytes). l ++ number_field w64 m.time) (two ∙ ap (λ (l : Bytes). l ++ long_field m.row) (one ∙ ap (λ (l : Bytes). l ++ short_field m.table) none)))
