-- How operations and entries are stored as values.
use Rattle.std.specs.Prelude.{◌≡◌, ◌⊎◌, ℕ, List, Option, refl}
use mathlib.Core.Logic.{inl, inr}
use Rattle.std.specs.Coded.{Coded, code_by, coded×, coded⊎, coded_list, coded_ℕ, coded_option}
use Rattle.row_keys.specs.declared.key.Key.{Key}
use Rattle.plain_model.specs.declared.operation.Pair.{Pair}
use Rattle.plain_model.specs.declared.operation.Op.{Op}
use Rattle.plain_model.specs.declared.operation.Op.TheVariants.{Create, Delete, Rename, Split, Merge, DeleteRows, Import, Clone, Insert, Remove, Stage}
use Rattle.plain_model.specs.declared.operation.Source.{Source}
use Rattle.plain_model.specs.declared.operation.Source.TheVariants.{Line, Carried}
use Rattle.plain_model.specs.declared.operation.Entry.{Entry}
use Rattle.plain_model.specs.State.{bytes_code, key_code}

abbrev pub pair_code : Coded Pair
pair_code = code_by (Key × List ℕ) (coded× key_code bytes_code) (λ p. (p.key, p.value)) (λ p. record { key = p.0; value = p.1 }) (λ _. refl)

abbrev Range : Type 0
Range = Option (List ℕ) × Option (List ℕ)

-- the fields of an operation, after the kind of it
abbrev Fields : Type 0
Fields =
    (List ℕ × (List ℕ × List (List ℕ))) ⊎ (List ℕ ⊎ ((List ℕ × List ℕ) ⊎ ((List ℕ × List ℕ) ⊎ ((List ℕ × Range) ⊎ ((List ℕ × Range) ⊎ ((List ℕ × List (List ℕ)) ⊎ ((List ℕ × (List ℕ × List ℕ)) ⊎ ((List ℕ × Pair) ⊎ ((List ℕ × Key) ⊎ (List ℕ × List Pair))))))))))

abbrev range_code : Coded Range
range_code = coded× (coded_option bytes_code) (coded_option bytes_code)

abbrev fields_code : Coded Fields
fields_code =
    coded⊎ (coded× bytes_code (coded× bytes_code (coded_list bytes_code)))
    (coded⊎ bytes_code
    (coded⊎ (coded× bytes_code bytes_code)
    (coded⊎ (coded× bytes_code bytes_code)
    (coded⊎ (coded× bytes_code range_code)
    (coded⊎ (coded× bytes_code range_code)
    (coded⊎ (coded× bytes_code (coded_list bytes_code))
    (coded⊎ (coded× bytes_code (coded× bytes_code bytes_code))
    (coded⊎ (coded× bytes_code pair_code)
    (coded⊎ (coded× bytes_code key_code) (coded× bytes_code (coded_list pair_code)))))))))))

fields_of : Op → Fields
fields_of (Create id name splits) = inl (id, (name, splits))
fields_of (Delete id) = inr (inl id)
fields_of (Rename id name) = inr (inr (inl (id, name)))
fields_of (Split id at) = inr (inr (inr (inl (id, at))))
fields_of (Merge id from to) = inr (inr (inr (inr (inl (id, (from, to))))))
fields_of (DeleteRows id from to) = inr (inr (inr (inr (inr (inl (id, (from, to)))))))
fields_of (Import id names) = inr (inr (inr (inr (inr (inr (inl (id, names)))))))
fields_of (Clone id new_id name) = inr (inr (inr (inr (inr (inr (inr (inl (id, (new_id, name)))))))))
fields_of (Insert id pair) = inr (inr (inr (inr (inr (inr (inr (inr (inl (id, pair)))))))))
fields_of (Remove id key) = inr (inr (inr (inr (inr (inr (inr (inr (inr (inl (id, key))))))))))
fields_of (Stage name pairs) = inr (inr (inr (inr (inr (inr (inr (inr (inr (inr (name, pairs))))))))))

op_of : Fields → Op
op_of (inl f) = Create f.0 f.1.0 f.1.1
op_of (inr (inl f)) = Delete f
op_of (inr (inr (inl f))) = Rename f.0 f.1
op_of (inr (inr (inr (inl f)))) = Split f.0 f.1
op_of (inr (inr (inr (inr (inl f))))) = Merge f.0 f.1.0 f.1.1
op_of (inr (inr (inr (inr (inr (inl f)))))) = DeleteRows f.0 f.1.0 f.1.1
op_of (inr (inr (inr (inr (inr (inr (inl f))))))) = Import f.0 f.1
op_of (inr (inr (inr (inr (inr (inr (inr (inl f)))))))) = Clone f.0 f.1.0 f.1.1
op_of (inr (inr (inr (inr (inr (inr (inr (inr (inl f))))))))) = Insert f.0 f.1
op_of (inr (inr (inr (inr (inr (inr (inr (inr (inr (inl f)))))))))) = Remove f.0 f.1
op_of (inr (inr (inr (inr (inr (inr (inr (inr (inr (inr f)))))))))) = Stage f.0 f.1

op_back : (op : Op) → op_of (fields_of op) ≡ op
unfolding op_of fields_of
op_back (Create id name splits) = refl
op_back (Delete id) = refl
op_back (Rename id name) = refl
op_back (Split id at) = refl
op_back (Merge id from to) = refl
op_back (DeleteRows id from to) = refl
op_back (Import id names) = refl
op_back (Clone id new_id name) = refl
op_back (Insert id pair) = refl
op_back (Remove id key) = refl
op_back (Stage name pairs) = refl

pub op_code : Coded Op
op_code = code_by Fields fields_code fields_of op_of op_back

source_part : Source → ℕ ⊎ ℕ
source_part (Line line) = inl line
source_part (Carried transaction) = inr transaction

source_from : ℕ ⊎ ℕ → Source
source_from (inl line) = Line line
source_from (inr transaction) = Carried transaction

source_back : (source : Source) → source_from (source_part source) ≡ source
unfolding source_from source_part
source_back (Line line) = refl
source_back (Carried transaction) = refl

source_code : Coded Source
source_code = code_by (ℕ ⊎ ℕ) (coded⊎ coded_ℕ coded_ℕ) source_part source_from source_back

pub entry_code : Coded Entry
entry_code =
    code_by (Op × (Source × (ℕ × Option ℕ))) (coded× op_code (coded× source_code (coded× coded_ℕ (coded_option coded_ℕ)))) (λ e. (e.op, (e.source, (e.line, e.lock))))
    (λ p. record { op = p.0; source = p.1.0; line = p.1.1.0; lock = p.1.1.1 }) (λ _. refl)
