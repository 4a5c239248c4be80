-- The bytes of a reply.
use Rattle.std.specs.Prelude.{ℕ, List, [], ◌∷◌, ◌++◌, length, codes}
use Rattle.std.specs.List.{flat_map}
use Rattle.std.specs.Fmt.{decimal}
use Rattle.script_words.specs.declared.reply.Answer.{Answer}
use Rattle.script_words.specs.declared.reply.Answer.TheVariants.{Ok, Rows, Refused}
use Rattle.script_words.specs.declared.reply.Refusal.TheVariants.{Exists, Unbuilt}

-- one line of a reply: the script line's number, a space, the text and a line feed
abbrev pub numbered : ℕ → List ℕ → List ℕ
numbered number text = decimal number ++ 32 ∷ text ++ 10 ∷ []

abbrev pub row_lines : ℕ → List (List ℕ) → List ℕ
row_lines number texts = flat_map (λ text. numbered number (codes "= " ++ text)) texts

abbrev pub row_count : ℕ → List (List ℕ) → List ℕ
row_count number texts = numbered number (codes "rows " ++ decimal (length texts))

-- the reply to a line of this number
abbrev pub reply_of : ℕ → Answer → List ℕ
reply_of number Ok = numbered number (codes "ok")
reply_of number (Rows texts) = row_lines number texts ++ row_count number texts
reply_of number (Refused (Exists name)) = numbered number (codes "no exists " ++ name)
reply_of number (Refused Unbuilt) = numbered number (codes "no unbuilt")
