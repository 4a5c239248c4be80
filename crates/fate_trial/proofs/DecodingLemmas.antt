-- What is spelled is read again.
use Rattle.std.proofs.Common.{◌≡◌, ◌≢◌, ℕ, zero, suc, ◌^◌, ◌<◌, ◌≤◌, cond, List, [], ◌∷◌, ◌++◌, length, take, drop, All, None, refl, sym, ◌∙◌, ap, arith, append_assoc, length-append}
use Rattle.std.specs.FinMap as map
use Rattle.std.specs.Int.{Width, w16, w32, byte_len}
use Rattle.std.specs.List.{flat_map}
use Rattle.std.proofs.lemmas.List.{take_at, drop_at}
use Rattle.std.proofs.lemmas.List.Elements.{All-head, All-tail}
use borrow.Author.Tests.{ne_eqb}
use Rattle.byteorder.specs.Endian.{big_number}
use Rattle.byteorder.specs.Numbers.{big_number-reads_back}
use Rattle.host_model.specs.Picture.{Image}
use Rattle.journal_core.specs.Records.{body, spelled, HasRecords}
use Rattle.bytes_form.specs.Fields.{number_field, counted_field, long_field, sized_field}
use Rattle.bytes_form.proofs.FieldsLemmas.{length-number_field}
use Rattle.node_store.specs.declared.changes.NodeOp.{NodeOp}
use Rattle.node_store.specs.declared.changes.NodeOp.TheVariants.{Create, Set, Delete}
use Rattle.node_store.specs.Nodes.{Nodes, multi_applied}
use Rattle.node_store.specs.Multi.{spelled_change, spelled_multi, IsWritten, IsMulti}
use Rattle.node_store.specs.Image.{FoldTo, HasNodes}
use Rattle.fate_trial.specs.Decoding.{counted, behind, payloads, change_at, behind_change, changes_at, or_same, nodes_after, nodes_of_file, nodes_in}

-- ---- fields

read-number : (w : Width) (n : ℕ) (rest : List ℕ) → n < 256 ^ byte_len w → big_number (byte_len w) (number_field w n ++ rest) ≡ n
unfolding number_field
read-number w n rest fits = big_number-reads_back (byte_len w) n rest fits

behind-number : (w : Width) (n : ℕ) (rest : List ℕ) → drop (byte_len w) (number_field w n ++ rest) ≡ rest
behind-number w n rest = drop_at (number_field w n) rest (byte_len w) (length-number_field w n)

parts : (w : Width) (bytes rest : List ℕ) → counted_field w bytes ++ rest ≡ number_field w (length bytes) ++ (bytes ++ rest)
unfolding counted_field
parts w bytes rest = append_assoc (number_field w (length bytes)) bytes rest

read-counted : (w : Width) (bytes rest : List ℕ) → length bytes < 256 ^ byte_len w → counted (byte_len w) (counted_field w bytes ++ rest) ≡ bytes
read-counted w bytes rest fits =
    ap (λ l. take (big_number (byte_len w) l) (drop (byte_len w) l)) (parts w bytes rest)
    ∙ ap (λ n. take n (drop (byte_len w) (number_field w (length bytes) ++ (bytes ++ rest)))) (read-number w (length bytes) (bytes ++ rest) fits)
    ∙ ap (λ (l : List ℕ). take (length bytes) l) (behind-number w (length bytes) (bytes ++ rest))
    ∙ take_at bytes rest (length bytes) refl

behind-counted : (w : Width) (bytes rest : List ℕ) → length bytes < 256 ^ byte_len w → behind (byte_len w) (counted_field w bytes ++ rest) ≡ rest
behind-counted w bytes rest fits =
    ap (λ l. drop (big_number (byte_len w) l) (drop (byte_len w) l)) (parts w bytes rest)
    ∙ ap (λ n. drop n (drop (byte_len w) (number_field w (length bytes) ++ (bytes ++ rest)))) (read-number w (length bytes) (bytes ++ rest) fits)
    ∙ ap (λ (l : List ℕ). drop (length bytes) l) (behind-number w (length bytes) (bytes ++ rest))
    ∙ drop_at bytes rest (length bytes) refl

-- ---- records

body_is : (payload : List ℕ) → body payload ≡ counted_field w32 payload
unfolding counted_field number_field
body_is payload = refl

read-records : (fuel : ℕ) (records : List (List ℕ)) (gate : ℕ) (rest : List ℕ) → length records ≤ fuel → gate ≢ 1 → All (λ payload. length payload < 2 ^ 32) records → payloads fuel (spelled records ++ gate ∷ rest) ≡ records
unfolding payloads
read-records zero [] gate rest enough shut short = refl
read-records (suc fuel) [] gate rest enough shut short = ap (λ b. cond b (counted 4 rest ∷ payloads fuel (behind 4 rest)) []) (ne_eqb gate 1 shut)
read-records zero (payload ∷ more) gate rest enough shut short = absurd (omega (arith, enough))
read-records (suc fuel) (payload ∷ more) gate rest enough shut short =
    let tail : List ℕ = spelled more ++ gate ∷ rest in
    let small : length payload < 2 ^ 32 = All-head (λ (l : List ℕ). length l < 2 ^ 32) payload more short in
    let split : body payload ++ spelled more ++ gate ∷ rest ≡ counted_field w32 payload ++ tail = append_assoc (body payload) (spelled more) (gate ∷ rest) ∙ ap (λ l. l ++ tail) (body_is payload) in
    ap (λ l. counted 4 l ∷ payloads fuel (behind 4 l)) split
    ∙ ap (λ l. l ∷ payloads fuel (behind 4 (counted_field w32 payload ++ tail))) (read-counted w32 payload tail small)
    ∙ ap (λ l. payload ∷ payloads fuel l) (behind-counted w32 payload tail small)
    ∙ ap (λ l. payload ∷ l) (read-records fuel more gate rest (omega (arith, enough)) shut (All-tail (λ (l : List ℕ). length l < 2 ^ 32) payload more short))

count-le : (records : List (List ℕ)) → length records ≤ length (spelled records)
count-le [] = omega arith
count-le (payload ∷ more) = omega (arith, count-le more, length-append (1 ∷ body payload) (spelled more))

pub read-file : (file : List ℕ) (records : List (List ℕ)) → HasRecords file records → payloads (length file) file ≡ records
read-file file records has =
    ap (λ (f : List ℕ). payloads (length file) f) has.is
    ∙ read-records (length file) records has.gate has.rest (omega (arith, count-le records, ap length has.is, length-append (spelled records) (has.gate ∷ has.rest))) has.shut has.short

-- ---- changes

read-valued : (kind : ℕ) (path value rest : List ℕ) → kind ∷ long_field path ++ sized_field value ++ rest ≡ kind ∷ (long_field path ++ (sized_field value ++ rest))
read-valued kind path value rest = ap (λ l. kind ∷ l) (append_assoc (long_field path) (sized_field value) rest)

module _ (path value rest : List ℕ) (short_path : length path < 2 ^ 16) (short_value : length value < 2 ^ 32) where
  path_at : counted 2 (long_field path ++ (sized_field value ++ rest)) ≡ path
  path_at = read-counted w16 path (sized_field value ++ rest) short_path

  behind_path : behind 2 (long_field path ++ (sized_field value ++ rest)) ≡ sized_field value ++ rest
  behind_path = behind-counted w16 path (sized_field value ++ rest) short_path

  value_at : counted 4 (behind 2 (long_field path ++ (sized_field value ++ rest))) ≡ value
  value_at = ap (λ l. counted 4 l) behind_path ∙ read-counted w32 value rest short_value

  rest_at : behind 4 (behind 2 (long_field path ++ (sized_field value ++ rest))) ≡ rest
  rest_at = ap (λ l. behind 4 l) behind_path ∙ behind-counted w32 value rest short_value

read-change : (op : NodeOp) (rest : List ℕ) → IsWritten op → (change_at (spelled_change op ++ rest) ≡ op) × (behind_change (spelled_change op ++ rest) ≡ rest)
unfolding change_at behind_change
read-change (Create path value) rest written =
    let short : length path < 2 ^ 16 = omega (arith, written.fits.0.most) in (
      ap (λ l. change_at l) (read-valued 1 path value rest) ∙ (λ i. Create (path_at path value rest short written.fits.1 i) (value_at path value rest short written.fits.1 i)),
      ap (λ l. behind_change l) (read-valued 1 path value rest) ∙ rest_at path value rest short written.fits.1,
    )
read-change (Set path value version) rest written =
    let short : length path < 2 ^ 16 = omega (arith, written.fits.0.most) in (
      ap (λ l. change_at l) (read-valued 2 path value rest) ∙ (λ i. Set (path_at path value rest short written.fits.1 i) (value_at path value rest short written.fits.1 i) None) ∙ written.plain,
      ap (λ l. behind_change l) (read-valued 2 path value rest) ∙ rest_at path value rest short written.fits.1,
    )
read-change (Delete path version) rest written =
    let short : length path < 2 ^ 16 = omega (arith, written.fits.most) in
    (ap (λ l. Delete l None) (read-counted w16 path rest short) ∙ written.plain, behind-counted w16 path rest short)

read-changes : (ops : List NodeOp) → All IsWritten ops → changes_at (length ops) (flat_map spelled_change ops) ≡ ops
unfolding changes_at
read-changes [] written = refl
read-changes (op ∷ more) written =
    let first = read-change op (flat_map spelled_change more) (All-head IsWritten op more written) in
    ap (λ o. o ∷ changes_at (length more) (behind_change (spelled_change op ++ flat_map spelled_change more))) first.0
    ∙ ap (λ l. op ∷ changes_at (length more) l) first.1
    ∙ ap (λ l. op ∷ l) (read-changes more (All-tail IsWritten op more written))

read-multi : (payload : List ℕ) (ops : List NodeOp) → IsMulti payload ops → changes_at (big_number 4 payload) (drop 4 payload) ≡ ops
read-multi payload ops multi =
    ap (λ (l : List ℕ). changes_at (big_number 4 l) (drop 4 l)) multi.is
    ∙ ap (λ n. changes_at n (drop 4 (spelled_multi ops))) (read-number w32 (length ops) (flat_map spelled_change ops) multi.count)
    ∙ ap (λ (l : List ℕ). changes_at (length ops) l) (behind-number w32 (length ops) (flat_map spelled_change ops))
    ∙ read-changes ops multi.each

-- ---- nodes

read-fold : (records : List (List ℕ)) (before after : Nodes) → FoldTo records before after → nodes_after records before ≡ after
unfolding nodes_after
read-fold [] before after folds = sym folds
read-fold (payload ∷ more) before after folds =
    ap (λ ops. nodes_after more (or_same before (multi_applied ops before))) (read-multi payload folds.1.ops folds.1.multi)
    ∙ ap (λ r. nodes_after more (or_same before r)) folds.1.applies
    ∙ read-fold more folds.0 after folds.2

pub read-nodes : (name : List ℕ) (image : Image) (nodes : Nodes) → HasNodes name image nodes → nodes_in name image ≡ nodes
unfolding nodes_in
read-nodes name image nodes has =
    ap nodes_of_file has.there.is
    ∙ ap (λ rs. nodes_after rs map.empty) (read-file has.there.file has.records has.there.has)
    ∙ read-fold has.records map.empty nodes has.folds
