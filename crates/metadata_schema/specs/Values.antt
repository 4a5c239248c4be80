-- What stands in the values of columns. Numbers are decimal, and without leading zeros.
use Rattle.std.specs.Prelude.{◌≡◌, ℕ, ◌<◌, ◌^◌, List, [], ◌∷◌, ◌++◌, Bool, true, false, Option, Some, None, IfSome, codes}
use Rattle.std.specs.Fmt.{decimal}

-- a number of 64 bits
pub record IsNumberText (text : List ℕ) : Type 0 where
  pub number : ℕ
  pub small : number < 2 ^ 64
  pub is : text ≡ decimal number

-- a time: a number below 2^63
pub record IsTimeText (text : List ℕ) : Type 0 where
  pub time : ℕ
  pub small : time < 2 ^ 63
  pub is : text ≡ decimal time

-- `L` and the bar
abbrev pub bar_value : ℕ → List ℕ
bar_value bar = 76 ∷ decimal bar

pub record IsBarValue (value : List ℕ) : Type 0 where
  pub bar : ℕ
  pub small : bar < 2 ^ 63
  pub is : value ≡ bar_value bar

abbrev pub time_part : Option ℕ → List ℕ
time_part None = []
time_part (Some time) = 44 ∷ decimal time

-- `size,entries` or `size,entries,time`
abbrev pub file_value : ℕ → ℕ → Option ℕ → List ℕ
file_value size entries time = decimal size ++ 44 ∷ (decimal entries ++ time_part time)

-- what a `file` column may say of its file
pub record AreFileFacts (size entries : ℕ) (time : Option ℕ) : Type 0 where
  pub small_size : size < 2 ^ 64
  pub few_entries : entries < 2 ^ 64
  pub small_time : IfSome time (λ t. t < 2 ^ 63)

pub record IsFileValue (value : List ℕ) : Type 0 where
  pub size : ℕ
  pub entries : ℕ
  pub time : Option ℕ
  pub facts : AreFileFacts size entries time
  pub is : value ≡ file_value size entries time

-- the number of entries, and behind a comma the time
pub record AreEntries (entries : ℕ) (time : Option ℕ) (text : List ℕ) : Type 0 where
  pub few_entries : entries < 2 ^ 64
  pub small_time : IfSome time (λ t. t < 2 ^ 63)
  pub is : text ≡ decimal entries ++ time_part time

pub record IsEntriesText (text : List ℕ) : Type 0 where
  pub entries : ℕ
  pub time : Option ℕ
  pub is : AreEntries entries time text

-- `chopped` stands there or not
abbrev pub chopped_value : Bool → Option (List ℕ)
chopped_value true = Some (codes "chopped")
chopped_value false = None
