-- The words of a run are of one form.
use Rattle.std.proofs.Common.{◌≡◌, ⊎_elim, ℕ, Bool, true, false, if◌then◌else◌, List, length, refl, sym, ◌∙◌, ap, arith}
use Rattle.script_words.specs.CommandLine.{AreStoreWords, IsStoreForm}
use Rattle.script_words.specs.declared.command_line.StoreForm.{StoreForm}

abbrev count_of : Bool → ℕ
count_of init = if init then 2 else 1

count_is : (words : List (List ℕ)) (form : StoreForm) → AreStoreWords words form → length words ≡ count_of form.init
count_is words form are = ⊎_elim
    (λ bare. ap length bare.1 ∙ sym (ap count_of bare.0))
    (λ more. ⊎_elim (λ front. ap length front.1 ∙ sym (ap count_of front.0)) (λ back. ap length back.1 ∙ sym (ap count_of back.0)) more)
    are

same_count : (one other : Bool) → count_of one ≡ count_of other → one ≡ other
same_count false false same = refl
same_count true true same = refl
same_count false true same = absurd (omega (arith, same))
same_count true false same = absurd (omega (arith, same))

pub same_init : (words : List (List ℕ)) (one other : StoreForm) → IsStoreForm words one → IsStoreForm words other → one.init ≡ other.init
same_init words one other first second = same_count one.init other.init (sym (count_is words one first.words_are) ∙ count_is words other second.words_are)
