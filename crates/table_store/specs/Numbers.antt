-- The numbers of table ids.
use Rattle.std.specs.Prelude.{◌≡◌, ℕ, ◌+◌, ◌-◌, ◌*◌, ◌^◌, ◌<◌, false, if◌then◌else◌, List, [], ◌∷◌, Option, Some, None}
use Rattle.std.specs.Option.{option_and_then}
use Rattle.std.specs.Fmt.{digits}
use Rattle.row_keys.specs.Forms.{is_between, IsUserTableId}

-- a number in lower-case base 36
abbrev pub base36 : ℕ → List ℕ
base36 number = digits 36 false number

-- the value of a digit of base 36
abbrev pub value_of : ℕ → Option ℕ
value_of byte = if is_between 48 57 byte then Some (byte - 48) else (if is_between 97 122 byte then Some (byte - 87) else None)

-- the number that digits go on to, from this one
abbrev pub value_from : ℕ → List ℕ → Option ℕ
value_from number [] = Some number
value_from number (byte ∷ bytes) = option_and_then (λ digit. value_from (36 * number + digit) bytes) (value_of byte)

-- the id spells a number from 1 on that was drawn before `next`
pub record IsDrawn (next : ℕ) (id : List ℕ) : Type 0 where
  pub form : IsUserTableId id
  pub number : ℕ
  pub is : value_from 0 id ≡ Some number
  pub positive : 0 < number
  pub below : number < next

-- a number that may be drawn next: from 1 on, and below 2^63
pub record IsDrawable (number : ℕ) : Type 0 where
  pub positive : 0 < number
  pub below : number < 2 ^ 63
