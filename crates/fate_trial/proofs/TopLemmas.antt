-- What values of nodes say of a book.
use Rattle.std.proofs.Common.{◌≡◌, ℕ, ◌^◌, ◌<◌, List, [], ◌∷◌, ◌++◌, Option, Some, None, sym, ◌∙◌, ap}
use Rattle.node_store.specs.Nodes.{Nodes}
use Rattle.fate_runner.specs.declared.text.StepWords.{StepWords}
use Rattle.fate_trial.specs.declared.layout.Slot.TheVariants.{Status, Lower, Upper}
use Rattle.fate_trial.specs.Layout.{slot_path, slot_value, value_at}
use Rattle.fate_trial.specs.Stored.{status_in, kind_in, words_in, book_of, IsTopWords}
use Rattle.fate_trial.specs.SlotLemmas.{slot-small}

module _ (nodes : Nodes) (t : ℕ) (small : t < 2 ^ 64) where
  pub status_at : (found : Option (List ℕ)) → found ≡ value_at nodes (slot_path Status t) → status_in found ≡ (book_of nodes t).status
  unfolding book_of
  status_at found is = ap (λ v. status_in v) (is ∙ sym (slot-small nodes Status t small))

  pub kind_at : (found : Option (List ℕ)) → found ≡ value_at nodes (slot_path Status t) → kind_in found ≡ (book_of nodes t).kind
  unfolding book_of
  kind_at found is = ap (λ v. kind_in v) (is ∙ sym (slot-small nodes Status t small))

  pub top_upper : (value : List ℕ) (words : StepWords) → Some value ≡ value_at nodes (slot_path Upper t) → words_in (Some value) ≡ words ∷ [] → IsTopWords (book_of nodes t).stack (Some words)
  unfolding book_of
  top_upper value words is spells =
      (words_in (slot_value nodes Lower t), ap (λ v. words_in v ++ words_in (slot_value nodes Lower t)) (slot-small nodes Upper t small ∙ sym is) ∙ ap (λ ws. ws ++ words_in (slot_value nodes Lower t)) spells)

  pub top_lower : (value : List ℕ) (words : StepWords) → None ≡ value_at nodes (slot_path Upper t) → Some value ≡ value_at nodes (slot_path Lower t) → words_in (Some value) ≡ words ∷ [] → IsTopWords (book_of nodes t).stack (Some words)
  unfolding book_of
  top_lower value words free is spells =
      ([], (λ i. words_in ((slot-small nodes Upper t small ∙ sym free) i) ++ words_in ((slot-small nodes Lower t small ∙ sym is) i)) ∙ spells)

  pub top_none : None ≡ value_at nodes (slot_path Upper t) → None ≡ value_at nodes (slot_path Lower t) → IsTopWords (book_of nodes t).stack None
  unfolding book_of
  top_none free empty = λ i. words_in ((slot-small nodes Upper t small ∙ sym free) i) ++ words_in ((slot-small nodes Lower t small ∙ sym empty) i)
