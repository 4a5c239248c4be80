-- Slots of transactions, and changes of them.
use Rattle.std.proofs.Common.{◌≡◌, ◌≢◌, ℕ, ◌^◌, ◌<◌, nat_lt, Bool, true, false, cond, List, length, get_or, Option, None, is_some, refl, sym, ◌∙◌, ap}
use Rattle.std.specs.Fmt.{decimal}
use Rattle.std.proofs.lemmas.Fmt.{decimal_injective}
use Rattle.std.proofs.lemmas.Bool.{ltb-true, lt-ltb}
use Rattle.bytes_form.proofs.FieldsLemmas.{parted}
use Rattle.node_store.specs.Nodes.{Nodes}
use Rattle.fate_trial.specs.declared.layout.Slot.{Slot}
use Rattle.fate_trial.specs.declared.layout.Slot.TheVariants.{Status, Lower, Upper, Walls, Roof}
use Rattle.fate_trial.specs.Layout.{slot_text, slot_path, slot_value, value_at, has}

-- ---- paths

text_size : (slot : Slot) → length (slot_text slot) ≡ 8
text_size Status = refl
text_size Lower = refl
text_size Upper = refl
text_size Walls = refl
text_size Roof = refl

-- the letter by which a slot's paths differ from those of the others
abbrev pub letter : Slot → ℕ
letter Status = 115
letter Lower = 48
letter Upper = 49
letter Walls = 119
letter Roof = 114

letter_at : (slot : Slot) (t : ℕ) → get_or (slot_path slot t) 6 0 ≡ letter slot
unfolding slot_path
letter_at Status t = refl
letter_at Lower t = refl
letter_at Upper t = refl
letter_at Walls t = refl
letter_at Roof t = refl

pub slots_apart : (a b : Slot) (t u : ℕ) → letter a ≢ letter b → slot_path a t ≢ slot_path b u
slots_apart a b t u other same = other (sym (letter_at a t) ∙ ap (λ l. get_or l 6 0) same ∙ letter_at b u)

pub tids_apart : (a b : Slot) (t u : ℕ) → t < 2 ^ 64 → u < 2 ^ 64 → t ≢ u → slot_path a t ≢ slot_path b u
unfolding slot_path
tids_apart a b t u small_t small_u other same = other (decimal_injective t u small_t small_u (parted (slot_text a) (slot_text b) (decimal t) (decimal u) (text_size a ∙ sym (text_size b)) same).1)

-- ---- values

pub slot-small : (nodes : Nodes) (slot : Slot) (t : ℕ) → t < 2 ^ 64 → slot_value nodes slot t ≡ value_at nodes (slot_path slot t)
unfolding slot_value
slot-small nodes slot t small = ap (λ b. cond b (value_at nodes (slot_path slot t)) None) (lt-ltb t (2 ^ 64) small)

-- values that agree at the paths of the slot agree in the slot
pub slot-same : (a b : Nodes) (slot : Slot) (t : ℕ) → (t < 2 ^ 64 → value_at b (slot_path slot t) ≡ value_at a (slot_path slot t)) → slot_value b slot t ≡ slot_value a slot t
unfolding slot_value
slot-same a b slot t same = at (nat_lt t (2 ^ 64)) refl
  where
    at : (k : Bool) → nat_lt t (2 ^ 64) ≡ k → cond k (value_at b (slot_path slot t)) None ≡ cond k (value_at a (slot_path slot t)) None
    at true is = same (ltb-true t (2 ^ 64) is)
    at false is = refl

pub has_is : (nodes : Nodes) (slot : Slot) (t : ℕ) → t < 2 ^ 64 → (found : Option (List ℕ)) → found ≡ value_at nodes (slot_path slot t) → is_some found ≡ has nodes slot t
has_is nodes slot t small found is = ap (λ v. is_some v) (is ∙ sym (slot-small nodes slot t small))
