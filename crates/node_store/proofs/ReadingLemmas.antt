-- A multi that is read change by change.
use Rattle.std.proofs.Common.{◌≡◌, ◌≢◌, ℕ, ◌<◌, ◌^◌, List, [], ◌∷◌, ◌++◌, length, All, None, refl, sym, ◌∙◌, ap, arith, append_assoc, length-append}
use Rattle.std.specs.Int.{w32}
use Rattle.std.specs.List.{flat_map}
use Rattle.std.proofs.lemmas.List.{append-nil}
use Rattle.std.proofs.lemmas.List.Concat.{flat_map-append}
use Rattle.std.proofs.lemmas.List.Elements.{All-head, All-tail, All-nil, All-push}
use Rattle.bytes_form.specs.Fields.{number_field, long_field, sized_field, Takes}
use Rattle.bytes_form.proofs.FieldsLemmas.{IsPrefixFree-number, IsPrefixFree-counted}
use Rattle.node_store.specs.declared.changes.NodeOp.{NodeOp}
use Rattle.node_store.specs.declared.changes.NodeOp.TheVariants.{Create, Set, Delete}
use Rattle.node_store.specs.Nodes.{path_of}
use Rattle.node_store.specs.Multi.{spelled_change, IsWritten, IsMulti}
use Rattle.node_store.specs.Reading.{StartsChange, StartsNoChange, IsNoMulti}
use Rattle.node_store.proofs.MultiLemmas.{kind_of, behind_path, spelled_parts, its_kind, its_path, one_path}

-- ---- in front of bytes stands one change at the most

module _ (kind : ℕ) (bytes : List ℕ) where
  -- two changes that write a value, of one kind
  same_parts : (a b : NodeOp) (x y v w : List ℕ) → StartsChange (kind ∷ bytes) a x → StartsChange (kind ∷ bytes) b y → behind_path a x ≡ sized_field v ++ x → behind_path b y ≡ sized_field w ++ y → length v < 2 ^ 32 → length w < 2 ^ 32
      → (path_of a ≡ path_of b) × (v ≡ w) × (x ≡ y)
  same_parts a b x y v w one two left right short long =
      let paths = one_path bytes (path_of a) (path_of b) (behind_path a x) (behind_path b y) (its_path kind bytes a x one) (its_path kind bytes b y two) in
      let values = IsPrefixFree-counted w32 v w x y short long (sym left ∙ paths.1 ∙ right) in
      (paths.0, values.0, values.1)

  of_kinds : {A : Type 0} (a b : NodeOp) (x y : List ℕ) → StartsChange (kind ∷ bytes) a x → StartsChange (kind ∷ bytes) b y → kind_of a ≢ kind_of b → A
  of_kinds a b x y one two other = absurd (other (sym (its_kind kind bytes a x one) ∙ its_kind kind bytes b y two))

  one_of_kind : (a b : NodeOp) (x y : List ℕ) → StartsChange (kind ∷ bytes) a x → StartsChange (kind ∷ bytes) b y → (a ≡ b) × (x ≡ y)
  one_of_kind (Create p v) (Create q w) x y one two = let same = same_parts (Create p v) (Create q w) x y v w one two refl refl one.written.fits.1 two.written.fits.1 in (λ i. Create (same.0 i) (same.1 i), same.2)
  one_of_kind (Create p v) (Set q w m) x y one two = of_kinds (Create p v) (Set q w m) x y one two (λ e. omega (arith, e))
  one_of_kind (Create p v) (Delete q m) x y one two = of_kinds (Create p v) (Delete q m) x y one two (λ e. omega (arith, e))
  one_of_kind (Set p v n) (Create q w) x y one two = of_kinds (Set p v n) (Create q w) x y one two (λ e. omega (arith, e))
  one_of_kind (Set p v n) (Set q w m) x y one two =
      let same = same_parts (Set p v n) (Set q w m) x y v w one two refl refl one.written.fits.1 two.written.fits.1 in
      (sym one.written.plain ∙ (λ i. Set (same.0 i) (same.1 i) None) ∙ two.written.plain, same.2)
  one_of_kind (Set p v n) (Delete q m) x y one two = of_kinds (Set p v n) (Delete q m) x y one two (λ e. omega (arith, e))
  one_of_kind (Delete p n) (Create q w) x y one two = of_kinds (Delete p n) (Create q w) x y one two (λ e. omega (arith, e))
  one_of_kind (Delete p n) (Set q w m) x y one two = of_kinds (Delete p n) (Set q w m) x y one two (λ e. omega (arith, e))
  one_of_kind (Delete p n) (Delete q m) x y one two =
      let same = one_path bytes p q x y (its_path kind bytes (Delete p n) x one) (its_path kind bytes (Delete q m) y two) in
      (sym one.written.plain ∙ (λ i. Delete (same.0 i) None) ∙ two.written.plain, same.1)

pub one_change : (bytes : List ℕ) (a b : NodeOp) (x y : List ℕ) → StartsChange bytes a x → StartsChange bytes b y → (a ≡ b) × (x ≡ y)
one_change bytes a b x y one two =
    let is = one.is ∙ spelled_parts a x in
    one_of_kind (kind_of a) (long_field (path_of a) ++ behind_path a x) a b x y (record { is = sym is ∙ one.is; written = one.written }) (record { is = sym is ∙ two.is; written = two.written })

-- ---- how the reading goes on

-- a multi of these changes has so many, begins with those that were read, and the rest spells the others
pub record GoesOn (count : ℕ) (read all : List NodeOp) (rest : List ℕ) : Type 0 where
  pub more : List NodeOp
  pub is : all ≡ read ++ more
  pub counts : length all ≡ count
  pub left : rest ≡ flat_map spelled_change more
  pub written : All IsWritten more

-- what was read of a payload, and what is left
pub record ReadSoFar (payload : List ℕ) (count : ℕ) (read : List NodeOp) (rest : List ℕ) : Type 0 where
  pub is : payload ≡ number_field w32 count ++ (flat_map spelled_change read ++ rest)
  pub written : All IsWritten read
  pub goes_on : (all : List NodeOp) → IsMulti payload all → GoesOn count read all rest

pub read_none : (payload : List ℕ) (count : ℕ) (rest : List ℕ) → count < 2 ^ 32 → Takes (number_field w32 count) rest payload → ReadSoFar payload count [] rest
read_none payload count rest fits takes = record {
  is = takes.is;
  written = All-nil IsWritten;
  goes_on = λ all multi.
      let same = IsPrefixFree-number w32 count (length all) rest (flat_map spelled_change all) fits multi.count (sym takes.is ∙ multi.is) in
      record { more = all; is = refl; counts = sym same.0; left = same.1; written = multi.each };
}

-- the changes that are left
at_front : (count : ℕ) (read more : List NodeOp) (rest : List ℕ) → length (read ++ more) ≡ count → length read < count → rest ≡ flat_map spelled_change more → All IsWritten more
    → (op : NodeOp) × (behind : List NodeOp) × (more ≡ op ∷ behind) × StartsChange rest op (flat_map spelled_change behind) × All IsWritten behind
at_front count read [] rest counts below left written = absurd (omega (arith, ap length (append-nil read), counts, below))
at_front count read (op ∷ behind) rest counts below left written = (op, behind, refl, record { is = left; written = All-head IsWritten op behind written }, All-tail IsWritten op behind written)

pub read_more : {payload : List ℕ} {count : ℕ} {read : List NodeOp} {rest : List ℕ} (op : NodeOp) (after : List ℕ) → ReadSoFar payload count read rest → length read < count → StartsChange rest op after → ReadSoFar payload count (read ++ op ∷ []) after
read_more {payload} {count} {read} {rest} op after so below starts = record {
  is =
      so.is ∙ ap (λ l. number_field w32 count ++ l)
      (ap (λ l. flat_map spelled_change read ++ l) starts.is ∙ sym (append_assoc (flat_map spelled_change read) (spelled_change op) after)
      ∙ ap (λ l. l ++ after) (ap (λ l. flat_map spelled_change read ++ l) (sym (append-nil (spelled_change op))) ∙ sym (flat_map-append spelled_change read (op ∷ []))));
  written = All-push IsWritten read op so.written starts.written;
  goes_on = λ all multi.
      let on = so.goes_on all multi in
      let front = at_front count read on.more rest (sym (ap length on.is) ∙ on.counts) below on.left on.written in
      let same = one_change rest front.0 op (flat_map spelled_change front.1) after front.3 starts in
      record {
        more = front.1;
        is = on.is ∙ ap (λ l. read ++ l) (front.2 ∙ ap (λ o. o ∷ front.1) same.0) ∙ sym (append_assoc read (op ∷ []) front.1);
        counts = on.counts;
        left = sym same.1;
        written = front.4;
      };
}

nothing : {A : Type 0} (xs : List A) → length xs ≡ 0 → xs ≡ []
nothing [] is = refl
nothing (x ∷ xs) is = absurd (omega (arith, is))

pub read_all : {payload : List ℕ} {count : ℕ} {read : List NodeOp} {rest : List ℕ} → ReadSoFar payload count read rest → count < 2 ^ 32 → length read ≡ count → length rest ≡ 0 → IsMulti payload read
read_all {payload} {count} {read} {rest} so fits counts done = record {
  is = so.is ∙ ap (λ l. number_field w32 count ++ l) (ap (λ l. flat_map spelled_change read ++ l) (nothing rest done) ∙ append-nil (flat_map spelled_change read)) ∙ ap (λ n. number_field w32 n ++ flat_map spelled_change read) (sym counts);
  count = omega (arith, counts, fits);
  each = so.written;
}

-- a change that isn't there
pub read_cut : {payload : List ℕ} {count : ℕ} {read : List NodeOp} {rest : List ℕ} → ReadSoFar payload count read rest → length read < count → StartsNoChange rest → IsNoMulti payload
read_cut {payload} {count} {read} {rest} so below none = record {
  none = λ all multi.
      let on = so.goes_on all multi in
      let front = at_front count read on.more rest (sym (ap length on.is) ∙ on.counts) below on.left on.written in
      none.none front.0 (flat_map spelled_change front.1) front.3;
}

-- bytes that are left over
pub read_past : {payload : List ℕ} {count : ℕ} {read : List NodeOp} {rest : List ℕ} → ReadSoFar payload count read rest → length read ≡ count → length rest ≢ 0 → IsNoMulti payload
read_past {payload} {count} {read} {rest} so counts some = record {
  none = λ all multi.
      let on = so.goes_on all multi in
      some (ap length (on.left ∙ ap (flat_map spelled_change) (nothing on.more (omega (arith, ap length on.is, on.counts, counts, length-append read on.more)))));
}
