-- What stands in front of bytes is one list of updates, and one rest.
use Rattle.std.proofs.Common.{◌≡◌, ℕ, ◌^◌, ◌<◌, Bool, true, false, List, ◌++◌, length, Option, Some, None, refl, sym, ◌∙◌, ap, arith, append_assoc}
use Rattle.std.specs.Int.{w8, w16, w32}
use Rattle.std.specs.List.{flat_map}
use Rattle.std.proofs.lemmas.Bool.{false≢true}
use Rattle.bytes_form.specs.Fields.{number_field, flag_field, short_field, long_field, Takes, TakesNone}
use Rattle.bytes_form.specs.PrefixFree.{IsPrefixFree}
use Rattle.bytes_form.proofs.FieldsLemmas.{IsPrefixFree-number, IsPrefixFree-counted, IsPrefixFree-flag}
use Rattle.metadata_schema.specs.declared.mutation.Update.{Update}
use Rattle.log_files.specs.Mutations.{Bytes, spelled_value, spelled_update, spelled_updates, FitsValue, FitsUpdate, AreUpdates, AreRising}
use Rattle.log_files.specs.Parts.{Starts, StartsNone, StartsMany, StartsFewer}
use Rattle.log_files.proofs.ManyLemmas.{one_many}

pub same_long : (a b x y : Bytes) → length a < 2 ^ 16 → length b < 2 ^ 16 → long_field a ++ x ≡ long_field b ++ y → (a ≡ b) × (x ≡ y)
same_long a b x y fits_a fits_b e = IsPrefixFree-counted w16 a b x y (omega (arith, fits_a)) (omega (arith, fits_b)) e

pub same_short : (a b x y : Bytes) → length a < 2 ^ 8 → length b < 2 ^ 8 → short_field a ++ x ≡ short_field b ++ y → (a ≡ b) × (x ≡ y)
same_short a b x y fits_a fits_b e = IsPrefixFree-counted w8 a b x y (omega (arith, fits_a)) (omega (arith, fits_b)) e

-- ---- values

value_parts : (value x : Bytes) → spelled_value (Some value) ++ x ≡ flag_field true ++ (long_field value ++ x)
value_parts value x = append_assoc (flag_field true) (long_field value) x

IsPrefixFree-value : IsPrefixFree FitsValue spelled_value
IsPrefixFree-value None None x y fits_a fits_b e = (refl, (IsPrefixFree-flag false false x y tt tt e).1)
IsPrefixFree-value None (Some w) x y fits_a fits_b e = absurd (false≢true (IsPrefixFree-flag false true x (long_field w ++ y) tt tt (e ∙ value_parts w y)).0)
IsPrefixFree-value (Some v) None x y fits_a fits_b e = absurd (false≢true (sym (IsPrefixFree-flag true false (long_field v ++ x) y tt tt (sym (value_parts v x) ∙ e)).0))
IsPrefixFree-value (Some v) (Some w) x y fits_a fits_b e =
    let flags = IsPrefixFree-flag true true (long_field v ++ x) (long_field w ++ y) tt tt (sym (value_parts v x) ∙ e ∙ value_parts w y) in
    let values = same_long v w x y fits_a fits_b flags.1 in
    (ap Some values.0, values.1)

pub no_long : (flag : Bool) (bytes x : Bytes) → flag ≡ true → Takes (flag_field flag) x bytes → TakesNone long_field x → StartsNone FitsValue spelled_value bytes
no_long flag bytes x is takes none = record { none = by }
  where
    front : bytes ≡ flag_field true ++ x
    front = takes.is ∙ ap (λ b. flag_field b ++ x) is

    by : (value : Option Bytes) (rest : Bytes) → Starts FitsValue spelled_value bytes value rest → ⊥
    by None rest starts = false≢true (sym (IsPrefixFree-flag true false x rest tt tt (sym front ∙ starts.is)).0)
    by (Some v) rest starts = none v rest (IsPrefixFree-flag true true x (long_field v ++ rest) tt tt (sym front ∙ starts.is ∙ value_parts v rest)).1

-- ---- updates

update_parts : (u : Update) (x : Bytes) → spelled_update u ++ x ≡ short_field u.family ++ (short_field u.qualifier ++ (spelled_value u.value ++ x))
update_parts u x = append_assoc (short_field u.family ++ short_field u.qualifier) (spelled_value u.value) x ∙ append_assoc (short_field u.family) (short_field u.qualifier) (spelled_value u.value ++ x)

pub IsPrefixFree-update : IsPrefixFree FitsUpdate spelled_update
IsPrefixFree-update a b x y fits_a fits_b e =
    let families = same_short a.family b.family (short_field a.qualifier ++ (spelled_value a.value ++ x)) (short_field b.qualifier ++ (spelled_value b.value ++ y)) fits_a.family fits_b.family (sym (update_parts a x) ∙ e ∙ update_parts b y) in
    let qualifiers = same_short a.qualifier b.qualifier (spelled_value a.value ++ x) (spelled_value b.value ++ y) fits_a.qualifier fits_b.qualifier families.1 in
    let values = IsPrefixFree-value a.value b.value x y fits_a.value fits_b.value qualifiers.1 in
    (λ i. record { family = families.0 i; qualifier = qualifiers.0 i; value = values.0 i }, values.1)

-- what an update that stands there has behind its family
behind_family : (bytes family x : Bytes) → Takes (short_field family) x bytes → length family < 2 ^ 8 → (u : Update) (rest : Bytes) → Starts FitsUpdate spelled_update bytes u rest → x ≡ short_field u.qualifier ++ (spelled_value u.value ++ rest)
behind_family bytes family x takes fits u rest starts =
    (same_short family u.family x (short_field u.qualifier ++ (spelled_value u.value ++ rest)) fits starts.value_fits.family (sym takes.is ∙ starts.is ∙ update_parts u rest)).1

pub no_qualifier : (bytes family x : Bytes) → Takes (short_field family) x bytes → length family < 2 ^ 8 → TakesNone short_field x → StartsNone FitsUpdate spelled_update bytes
no_qualifier bytes family x takes fits none = record { none = λ u rest starts. none u.qualifier (spelled_value u.value ++ rest) (behind_family bytes family x takes fits u rest starts) }

pub no_value : (bytes family x qualifier y : Bytes) → Takes (short_field family) x bytes → length family < 2 ^ 8 → Takes (short_field qualifier) y x → length qualifier < 2 ^ 8 → StartsNone FitsValue spelled_value y → StartsNone FitsUpdate spelled_update bytes
no_value bytes family x qualifier y takes fits next short none = record {
  none = λ u rest starts.
      let same = same_short qualifier u.qualifier y (spelled_value u.value ++ rest) short starts.value_fits.qualifier (sym next.is ∙ behind_family bytes family x takes fits u rest starts) in
      none.none u.value rest (record { is = same.1; value_fits = starts.value_fits.value });
}

-- ---- lists of updates

pub updates_parts : (us : List Update) (x : Bytes) → spelled_updates us ++ x ≡ number_field w32 (length us) ++ (flat_map spelled_update us ++ x)
unfolding spelled_updates
updates_parts us x = append_assoc (number_field w32 (length us)) (flat_map spelled_update us) x

same_count : (a b : ℕ) (x y : Bytes) → a < 2 ^ 32 → b < 2 ^ 32 → number_field w32 a ++ x ≡ number_field w32 b ++ y → (a ≡ b) × (x ≡ y)
same_count a b x y fits_a fits_b e = IsPrefixFree-number w32 a b x y (omega (arith, fits_a)) (omega (arith, fits_b)) e

pub IsPrefixFree-updates : IsPrefixFree AreUpdates spelled_updates
IsPrefixFree-updates a b x y fits_a fits_b e =
    let counts = same_count (length a) (length b) (flat_map spelled_update a ++ x) (flat_map spelled_update b ++ y) fits_a.counts fits_b.counts (sym (updates_parts a x) ∙ e ∙ updates_parts b y) in
    one_many FitsUpdate spelled_update IsPrefixFree-update a b x y fits_a.each fits_b.each counts.0 counts.1

pub no_count : (bytes : Bytes) → TakesNone (number_field w32) bytes → StartsNone AreUpdates spelled_updates bytes
no_count bytes none = record { none = λ us rest starts. none (length us) (flat_map spelled_update us ++ rest) (starts.is ∙ updates_parts us rest) }

-- what updates that stand there have behind their number
behind_count : (bytes : Bytes) (count : ℕ) (x : Bytes) → Takes (number_field w32 count) x bytes → count < 2 ^ 32 → (us : List Update) (rest : Bytes) → Starts AreUpdates spelled_updates bytes us rest → (count ≡ length us) × (x ≡ flat_map spelled_update us ++ rest)
behind_count bytes count x takes fits us rest starts =
    same_count count (length us) x (flat_map spelled_update us ++ rest) fits starts.value_fits.counts (sym takes.is ∙ starts.is ∙ updates_parts us rest)

pub no_updates : (bytes : Bytes) (count : ℕ) (x : Bytes) → Takes (number_field w32 count) x bytes → count < 2 ^ 32 → count ≡ 0 → StartsNone AreUpdates spelled_updates bytes
no_updates bytes count x takes fits zero = record {
  none = λ us rest starts. (let same = (behind_count bytes count x takes fits us rest starts).0 in let some = starts.value_fits.some in omega (arith, zero, same, some));
}

pub fewer_updates : (bytes : Bytes) (count : ℕ) (x : Bytes) → Takes (number_field w32 count) x bytes → count < 2 ^ 32 → StartsFewer FitsUpdate AreRising spelled_update count x → StartsNone AreUpdates spelled_updates bytes
fewer_updates bytes count x takes fits fewer = record {
  none = λ us rest starts.
      let same = behind_count bytes count x takes fits us rest starts in
      fewer.none us rest (record { is = same.1; counts = sym same.0; each = starts.value_fits.each; in_order = starts.value_fits.rising });
}

pub some_updates : (bytes : Bytes) (count : ℕ) (x : Bytes) (us : List Update) (rest : Bytes) → Takes (number_field w32 count) x bytes → count < 2 ^ 32 → (count ≡ 0 → ⊥) → StartsMany FitsUpdate AreRising spelled_update count x us rest → Starts AreUpdates spelled_updates bytes us rest
some_updates bytes count x us rest takes fits some many = record {
  is = takes.is ∙ ap (λ (n : ℕ). number_field w32 n ++ x) (sym many.counts) ∙ ap (λ (l : Bytes). number_field w32 (length us) ++ l) many.is ∙ sym (updates_parts us rest);
  value_fits = record { some = omega (arith, some, many.counts); counts = omega (arith, fits, many.counts); each = many.each; rising = many.in_order };
}

pub updates_put : (us : List Update) (old mid new : Bytes) (count : ℕ) → mid ≡ old ++ number_field w32 count → new ≡ mid ++ flat_map spelled_update us → count ≡ length us → new ≡ old ++ spelled_updates us
unfolding spelled_updates
updates_put us old mid new count one two counts =
    two ∙ ap (λ (l : Bytes). l ++ flat_map spelled_update us) one ∙ append_assoc old (number_field w32 count) (flat_map spelled_update us)
    ∙ ap (λ (n : ℕ). old ++ (number_field w32 n ++ flat_map spelled_update us)) counts
