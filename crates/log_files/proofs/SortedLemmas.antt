-- A sorted log's parts, as they are written and read.
use Rattle.std.proofs.Common.{◌≡◌, inl, inr, Bool, true, false, not, ℕ, ◌+◌, ◌^◌, ◌<◌, ◌≤◌, codes, List, [], ◌∷◌, ◌++◌, length, take, drop, Some, Option, Result, Ok, Err, IsTrue, refl, sym, ◌∙◌, ap, subst, arith, append_assoc, length-append, length-take, take-append-drop}
use Rattle.std.specs.Int.{w32, w64}
use Rattle.std.specs.Str.{bytes_eq}
use Rattle.std.specs.List.{flat_map}
use Rattle.std.specs.List.Sorted.{IsPermutation}
use Rattle.std.proofs.lemmas.List.{append-nil}
use Rattle.std.proofs.lemmas.List.Concat.{length-flat_map}
use Rattle.std.proofs.lemmas.List.Sorted.{sum_by-IsPermutation}
use Rattle.std.proofs.lemmas.Slice.Eq.{bytes_eq-Decides}
use Rattle.host_model.specs.Picture.{ChangesFile, Becomes, file_at}
use Rattle.host_model.specs.State.{HostState}
use Rattle.host_model.specs.Calls.{IsSound}
use Rattle.host_model.specs.Stores.{Stores}
use Rattle.host_model.proofs.Images.{after_change}
use Rattle.host_model.proofs.StoresLemmas.{stores_weaker}
use Rattle.bytes_form.specs.Fields.{number_field, sized_field, Takes, TakesNone}
use Rattle.bytes_form.specs.PrefixFree.{IsPrefixFree}
use Rattle.bytes_form.proofs.FieldsLemmas.{IsPrefixFree-number, IsPrefixFree-counted, length-number_field, length-counted_field, parted}
use Rattle.journal_core.specs.Changes.{MayMake}
use Rattle.metadata_schema.specs.declared.mutation.Mutation.{Mutation}
use Rattle.log_files.specs.Mutations.{Bytes, spelled_mutation, IsLogged}
use Rattle.log_files.specs.Sorted.{spelled_entry, spelled_sorted, AreInOrder, IsStableSortOf, IsSortedLog, IsSortOf, BecomesSortOf, WritesSorted}
use Rattle.log_files.specs.Parts.{Starts, StartsNone, StartsMany, StartsFewer, StartsHead, StartsNoHead, HasNoSorted, IsEntry, IsNoEntry}
use Rattle.log_files.proofs.MutationLemmas.{one_mutation}
use Rattle.log_files.proofs.ManyLemmas.{many_same}

-- ---- entries

same_entry : (a b x y : Bytes) → length a < 2 ^ 32 → length b < 2 ^ 32 → sized_field a ++ x ≡ sized_field b ++ y → (a ≡ b) × (x ≡ y)
same_entry a b x y one two e = IsPrefixFree-counted w32 a b x y (omega (arith, one)) (omega (arith, two)) e

pub IsPrefixFree-entry : IsPrefixFree IsLogged spelled_entry
unfolding spelled_entry
IsPrefixFree-entry a b x y one two e =
    let same = same_entry (spelled_mutation a) (spelled_mutation b) x y one.short two.short e in
    (one_mutation (spelled_mutation a) a b (record { is = refl; spelled = one.spelled }) (record { is = same.0; spelled = two.spelled }), same.1)

pub no_entry : (bytes : Bytes) → TakesNone sized_field bytes → StartsNone IsLogged spelled_entry bytes
unfolding spelled_entry
no_entry bytes none = record { none = λ m rest starts. none (spelled_mutation m) rest starts.is }

pub other_entry : (bytes payload x : Bytes) → Takes (sized_field payload) x bytes → length payload < 2 ^ 32 → IsNoEntry payload → StartsNone IsLogged spelled_entry bytes
unfolding spelled_entry
other_entry bytes payload x takes fits none = record {
  none = λ m rest starts.
      let same = same_entry payload (spelled_mutation m) x rest fits starts.value_fits.short (sym takes.is ∙ starts.is) in
      none.none m (record { is = same.0; logged = starts.value_fits });
}

pub some_entry : (bytes payload x : Bytes) (m : Mutation) → Takes (sized_field payload) x bytes → IsEntry payload m → Starts IsLogged spelled_entry bytes m x
unfolding spelled_entry
some_entry bytes payload x m takes is = record { is = takes.is ∙ ap (λ l. sized_field l ++ x) is.is; value_fits = is.logged }

pub entry_put : (m : Mutation) (old new bytes : Bytes) → bytes ≡ spelled_mutation m → new ≡ old ++ sized_field bytes → new ≡ old ++ spelled_entry m
unfolding spelled_entry
entry_put m old new bytes is put = put ∙ ap (λ l. old ++ sized_field l) is

length-entry : (m : Mutation) → 1 ≤ length (spelled_entry m)
unfolding spelled_entry
length-entry m = omega (arith, length-counted_field w32 (spelled_mutation m))

count-le : (ms : List Mutation) → length ms ≤ length (flat_map spelled_entry ms)
count-le [] = omega arith
count-le (m ∷ ms) = omega (arith, length-append (spelled_entry m) (flat_map spelled_entry ms), length-entry m, count-le ms)

-- ---- the head

abbrev magic : Bytes
magic = codes "ACMLOG01"

head_parts : (count : ℕ) (rest : Bytes) → (magic ++ number_field w64 count) ++ rest ≡ magic ++ (number_field w64 count ++ rest)
head_parts count rest = append_assoc magic (number_field w64 count) rest

-- the test that compares the first bytes
pub same_magic : (front all : Bytes) → false ≡ not (bytes_eq front all) → all ≡ magic → front ≡ magic
same_magic front all test is = (bytes_eq-Decides front all).0 (is_true (bytes_eq front all) test) ∙ is
  where
    is_true : (b : Bool) → false ≡ not b → b ≡ true
    is_true true e = refl
    is_true false e = cc

pub some_head : (bytes front back : Bytes) (count : ℕ) (x : Bytes) → front ≡ take 8 bytes → back ≡ drop 8 bytes → front ≡ magic → Takes (number_field w64 count) x back → count < 2 ^ 64 → StartsHead bytes count x
some_head bytes front back count x first behind is one fits = record {
  is = sym (take-append-drop 8 bytes) ∙ ap (λ (l : Bytes). l ++ drop 8 bytes) (sym first ∙ is) ∙ ap (λ (l : Bytes). magic ++ l) (sym behind ∙ one.is) ∙ sym (head_parts count x);
  count_fits = fits;
}

length-head_parts : (count : ℕ) (rest : Bytes) → 8 ≤ length (magic ++ (number_field w64 count ++ rest))
length-head_parts count rest = omega (arith, length-append magic (number_field w64 count ++ rest))

-- the magic is the first eight bytes
its_magic : (bytes : Bytes) (count : ℕ) (rest : Bytes) → StartsHead bytes count rest → (take 8 bytes ≡ magic) × (drop 8 bytes ≡ number_field w64 count ++ rest)
its_magic bytes count rest starts =
    let e = take-append-drop 8 bytes ∙ starts.is ∙ head_parts count rest in
    let long : length (take 8 bytes) ≡ length magic = omega (arith, ap (length {A = ℕ}) (starts.is ∙ head_parts count rest), length-head_parts count rest, length-take 8 bytes) in
    parted (take 8 bytes) magic (drop 8 bytes) (number_field w64 count ++ rest) long e

one_head : (bytes : Bytes) (a b : ℕ) (x y : Bytes) → StartsHead bytes a x → StartsHead bytes b y → (a ≡ b) × (x ≡ y)
one_head bytes a b x y one two =
    IsPrefixFree-number w64 a b x y (let o = one.count_fits in omega (arith, o)) (let o = two.count_fits in omega (arith, o)) (sym (its_magic bytes a x one).1 ∙ (its_magic bytes b y two).1)

-- ---- whole files

length-sorted : (ms : List Mutation) → length (spelled_sorted ms) ≡ 16 + length (flat_map spelled_entry ms)
unfolding spelled_sorted
length-sorted ms = omega (arith, length-append (magic ++ number_field w64 (length ms)) (flat_map spelled_entry ms), length-append magic (number_field w64 (length ms)), length-number_field w64 (length ms))

its_head : (bytes : Bytes) (ms : List Mutation) → IsSortedLog bytes ms → StartsHead bytes (length ms) (flat_map spelled_entry ms)
unfolding spelled_sorted
its_head bytes ms is = record { is = is.is; count_fits = (let short = is.short in omega (arith, short, ap (length {A = ℕ}) is.is, length-sorted ms, count-le ms)) }

pub no_head : (bytes : Bytes) → StartsNoHead bytes → HasNoSorted bytes
no_head bytes none = record { none = λ ms is. none.none (length ms) (flat_map spelled_entry ms) (its_head bytes ms is) }

-- the entries of a sorted log that begins so
its_entries : (bytes : Bytes) (count : ℕ) (x : Bytes) → StartsHead bytes count x → (ms : List Mutation) → IsSortedLog bytes ms → StartsMany IsLogged AreInOrder spelled_entry count x ms []
its_entries bytes count x starts ms is =
    let same = one_head bytes count (length ms) x (flat_map spelled_entry ms) starts (its_head bytes ms is) in
    record { is = same.1 ∙ sym (append-nil (flat_map spelled_entry ms)); counts = sym same.0; each = is.each; in_order = is.in_order }

pub fewer_entries : (bytes : Bytes) (count : ℕ) (x : Bytes) → StartsHead bytes count x → StartsFewer IsLogged AreInOrder spelled_entry count x → HasNoSorted bytes
fewer_entries bytes count x starts fewer = record { none = λ ms is. fewer.none ms [] (its_entries bytes count x starts ms is) }

pub more_behind : (bytes : Bytes) (count : ℕ) (x : Bytes) (read : List Mutation) (rest : Bytes) → StartsHead bytes count x → StartsMany IsLogged AreInOrder spelled_entry count x read rest → (rest ≡ [] → ⊥) → HasNoSorted bytes
more_behind bytes count x read rest starts many more = record {
  none = λ ms is. more (many_same IsLogged AreInOrder spelled_entry IsPrefixFree-entry count x read rest ms [] many (its_entries bytes count x starts ms is)).1;
}

pub some_sorted : (bytes : Bytes) (count : ℕ) (x : Bytes) (read : List Mutation) (rest : Bytes) → length bytes < 2 ^ 64 → StartsHead bytes count x → StartsMany IsLogged AreInOrder spelled_entry count x read rest → rest ≡ [] → IsSortedLog bytes read
unfolding spelled_sorted
some_sorted bytes count x read rest short starts many end = record {
  is =
      starts.is ∙ ap (λ (n : ℕ). (magic ++ number_field w64 n) ++ x) (sym many.counts)
      ∙ ap (λ (l : Bytes). (magic ++ number_field w64 (length read)) ++ l) (many.is ∙ ap (λ (l : Bytes). flat_map spelled_entry read ++ l) end ∙ append-nil (flat_map spelled_entry read));
  each = many.each;
  in_order = many.in_order;
  short = short;
}

-- a file is one list's
pub one_sorted : (bytes : Bytes) (one other : List Mutation) → IsSortedLog bytes one → IsSortedLog bytes other → one ≡ other
one_sorted bytes one other first second =
    let head = its_head bytes one first in
    (many_same IsLogged AreInOrder spelled_entry IsPrefixFree-entry (length one) (flat_map spelled_entry one) one [] other [] (its_entries bytes (length one) (flat_map spelled_entry one) head one first) (its_entries bytes (length one) (flat_map spelled_entry one) head other second)).0

-- ---- a file that is written

pub sorted_put : (ms : List Mutation) (count : ℕ) (a b new : Bytes) → a ≡ magic → b ≡ a ++ number_field w64 count → new ≡ b ++ flat_map spelled_entry ms → count ≡ length ms → new ≡ spelled_sorted ms
unfolding spelled_sorted
sorted_put ms count a b new one two three counts =
    three ∙ ap (λ (l : Bytes). l ++ flat_map spelled_entry ms) (two ∙ ap (λ (l : Bytes). l ++ number_field w64 count) one) ∙ ap (λ (n : ℕ). (magic ++ number_field w64 n) ++ flat_map spelled_entry ms) counts

-- sorting moves entries, and keeps the size
pub same_size : (ms sorted : List Mutation) → IsPermutation ms sorted → length (spelled_sorted sorted) ≡ length (spelled_sorted ms)
same_size ms sorted same =
    length-sorted sorted ∙ ap (λ (n : ℕ). 16 + n) (length-flat_map spelled_entry sorted ∙ sum_by-IsPermutation (λ m. length (spelled_entry m)) ms sorted same ∙ sym (length-flat_map spelled_entry ms)) ∙ sym (length-sorted ms)

pub sorted_stores : {name bytes : Bytes} (ms sorted : List Mutation) {T E : Type 0} {result : Result T E} {a b : HostState} → IsStableSortOf ms sorted → IsSortedLog bytes sorted → Stores name (MayMake (length bytes)) (Becomes (Some bytes)) result a b
    → Stores name (MayMake (length (spelled_sorted ms))) (BecomesSortOf ms) result a b
sorted_stores {bytes = bytes} ms sorted sorts is stores =
    stores_weaker (MayMake (length (spelled_sorted ms))) (BecomesSortOf ms) stores
    (λ x y may. shorter x y may)
    (λ x y becomes. record { sorted = sorted; bytes = bytes; sorts = sorts; there = becomes; is_sorted = is })
  where
    shorter : (x y : Option Bytes) → MayMake (length bytes) x y → MayMake (length (spelled_sorted ms)) x y
    shorter x y (inl stays) = inl stays
    shorter x y (inr short) = inr (record { bytes = short.bytes; is = short.is; short = (let at_most = short.short in omega (arith, at_most, ap (length {A = ℕ}) is.is, same_size ms sorted sorts.same)) })

pub writes_sorted : {name : Bytes} (ms : List Mutation) {D : Option Bytes → Option Bytes → Type 0} {T E : Type 0} {result : Result T E} {a b : HostState} → IsSound a → Stores name D (BecomesSortOf ms) result a b → WritesSorted name ms result a b
writes_sorted ms {result = Err e} sound stores = record { done = λ f. tt; lasts = λ h. tt }
writes_sorted {name} ms {result = Ok u} {a} {b} sound stores = record {
  done = λ f. there f;
  lasts = λ h p now. let settled = stores.settled h in subst (IsSortOf ms) (sym (settled.each p now)) (there (sound.faithful h));
}
  where
    there : IsTrue a.is_faithful → IsSortOf ms (file_at b.files name)
    there f = let change : ChangesFile name (BecomesSortOf ms) a.files b.files = stores.done f in subst (IsSortOf ms) (sym (after_change change)) change.steps

-- ---- a file that is read
