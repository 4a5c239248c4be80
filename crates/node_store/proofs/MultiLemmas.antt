-- The spelling of changes and of multis.
use Rattle.std.proofs.Common.{◌≡◌, ◌≢◌, ℕ, ◌+◌, ◌<◌, ◌≤◌, ◌^◌, List, [], ◌∷◌, ◌++◌, length, take, get_or, All, refl, sym, ◌∙◌, ap, subst, arith, append_assoc, length-append}
use Rattle.std.specs.Int.{w16, w32}
use Rattle.std.specs.List.{flat_map}
use Rattle.std.proofs.lemmas.List.{take_all}
use Rattle.std.proofs.lemmas.List.Folds.{length-flat_map-take}
use Rattle.row_keys.specs.Forms.{IsPath}
use Rattle.bytes_form.specs.Fields.{number_field, long_field, sized_field}
use Rattle.bytes_form.proofs.FieldsLemmas.{length-number_field, length-counted_field, IsPrefixFree-counted}
use Rattle.node_store.specs.declared.changes.NodeOp.{NodeOp}
use Rattle.node_store.specs.declared.changes.NodeOp.TheVariants.{Create, Set, Delete}
use Rattle.node_store.specs.Nodes.{path_of}
use Rattle.node_store.specs.Multi.{spelled_change, spelled_multi, Fits}
use Rattle.node_store.specs.Reading.{StartsPath, StartsChange, StartsNoPath, StartsNoValue, StartsNoChange, Spells}

pub length-written : (kind : ℕ) (path value : List ℕ) → length (kind ∷ long_field path ++ sized_field value) ≡ 7 + length path + length value
length-written kind path value = omega (arith, length-append (kind ∷ long_field path) (sized_field value), length-counted_field w16 path, length-counted_field w32 value)

pub length-path : (kind : ℕ) (path : List ℕ) → length (kind ∷ long_field path) ≡ 3 + length path
length-path kind path = omega (arith, length-counted_field w16 path)

-- what stands in front of bytes is one path, and one rest
pub one_path : (bytes p q x y : List ℕ) → StartsPath bytes p x → StartsPath bytes q y → (p ≡ q) × (x ≡ y)
one_path bytes p q x y one two = IsPrefixFree-counted w16 p q x y (omega (arith, one.form.most)) (omega (arith, two.form.most)) (sym one.is ∙ two.is)

-- bytes behind two length bytes that are no path
pub no_path : (bytes p x : List ℕ) → length p < 2 ^ 16 → bytes ≡ long_field p ++ x → (IsPath p → ⊥) → StartsNoPath bytes
no_path bytes p x fits is none = record { none = λ q y one. none (subst IsPath (sym (IsPrefixFree-counted w16 p q x y fits (omega (arith, one.form.most)) (sym is ∙ one.is)).0) one.form) }

-- ---- how long a multi is

pub length-spelled_multi : (ops : List NodeOp) → length (spelled_multi ops) ≡ 4 + length (flat_map spelled_change ops)
length-spelled_multi ops = omega (arith, length-append (number_field w32 (length ops)) (flat_map spelled_change ops), length-number_field w32 (length ops))

-- the changes up to one, and that one
pub length-so_far : (ops : List NodeOp) (i : ℕ) (op : NodeOp) → i < length ops → op ≡ get_or ops i op → length (flat_map spelled_change (take i ops)) + length (spelled_change op) ≤ length (flat_map spelled_change ops)
length-so_far ops i op within is = subst (λ o. length (flat_map spelled_change (take i ops)) + length (spelled_change o) ≤ length (flat_map spelled_change ops)) (sym is) (length-flat_map-take spelled_change ops i op within)

some_bytes : (op : NodeOp) → 1 ≤ length (spelled_change op)
some_bytes (Create path value) = omega (arith, length-written 1 path value)
some_bytes (Set path value version) = omega (arith, length-written 2 path value)
some_bytes (Delete path version) = omega (arith, length-path 3 path)

-- there are no more changes than bytes
pub count-le : (ops : List NodeOp) → length ops ≤ length (flat_map spelled_change ops)
count-le [] = omega arith
count-le (op ∷ ops) = omega (arith, count-le ops, some_bytes op, length-append (spelled_change op) (flat_map spelled_change ops))

-- ---- what stands in front of bytes is one change, and one rest

-- what a change has behind its path
abbrev pub behind_path : NodeOp → List ℕ → List ℕ
behind_path (Create path value) rest = sized_field value ++ rest
behind_path (Set path value version) rest = sized_field value ++ rest
behind_path (Delete path version) rest = rest

abbrev pub kind_of : NodeOp → ℕ
kind_of (Create path value) = 1
kind_of (Set path value version) = 2
kind_of (Delete path version) = 3

pub spelled_parts : (op : NodeOp) (rest : List ℕ) → spelled_change op ++ rest ≡ kind_of op ∷ (long_field (path_of op) ++ behind_path op rest)
spelled_parts (Create path value) rest = ap (λ l. 1 ∷ l) (append_assoc (long_field path) (sized_field value) rest)
spelled_parts (Set path value version) rest = ap (λ l. 2 ∷ l) (append_assoc (long_field path) (sized_field value) rest)
spelled_parts (Delete path version) rest = refl

is_path : (op : NodeOp) → Fits op → IsPath (path_of op)
is_path (Create path value) fits = fits.0
is_path (Set path value version) fits = fits.0
is_path (Delete path version) fits = fits

-- the kind of a change that stands in front
pub its_kind : (kind : ℕ) (bytes : List ℕ) (op : NodeOp) (rest : List ℕ) → StartsChange (kind ∷ bytes) op rest → kind ≡ kind_of op
its_kind kind bytes op rest starts = let e = starts.is ∙ spelled_parts op rest in cc e

-- and its path
pub its_path : (kind : ℕ) (bytes : List ℕ) (op : NodeOp) (rest : List ℕ) → StartsChange (kind ∷ bytes) op rest → StartsPath bytes (path_of op) (behind_path op rest)
its_path kind bytes op rest starts = let e = starts.is ∙ spelled_parts op rest in record { is = cc e; form = is_path op starts.written.fits }

-- a change that isn't a deletion has a value behind its path
pub without_value : (kind : ℕ) (bytes behind path rest : List ℕ) → bytes ≡ kind ∷ behind → kind ≢ 3 → StartsPath behind path rest → StartsNoValue rest → StartsNoChange bytes
without_value kind bytes behind path rest is other front none = record { none = λ op x starts. at op x (record { is = sym is ∙ starts.is; written = starts.written }) }
  where
    at : (op : NodeOp) (x : List ℕ) → StartsChange (kind ∷ behind) op x → ⊥
    at (Create p value) x starts = none.none value x (record { is = (one_path behind path p rest (sized_field value ++ x) front (its_path kind behind (Create p value) x starts)).1; short = starts.written.fits.1 })
    at (Set p value version) x starts = none.none value x (record { is = (one_path behind path p rest (sized_field value ++ x) front (its_path kind behind (Set p value version) x starts)).1; short = starts.written.fits.1 })
    at (Delete p version) x starts = other (its_kind kind behind (Delete p version) x starts)

-- all changes, as the loop leaves them
pub spells_all : (out : List ℕ) (ops : List NodeOp) (i : ℕ) → length ops ≤ i → out ≡ number_field w32 (length ops) ++ flat_map spelled_change (take i ops) → All Fits (take i ops) → length (spelled_multi ops) < 2 ^ 32
    → Spells out ops × (length out < 2 ^ 32)
spells_all out ops i done spelled fit short =
    let all : take i ops ≡ ops = take_all i ops done in
    let is : out ≡ spelled_multi ops = spelled ∙ ap (λ l. number_field w32 (length ops) ++ flat_map spelled_change l) all in
    (record { is = is; count = omega (arith, count-le ops, length-spelled_multi ops, short); each = subst (All Fits) all fit }, omega (arith, short, ap length is))
