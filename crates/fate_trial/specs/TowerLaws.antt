-- The laws of the meaning of towers.
use Rattle.std.proofs.Common.{◌≡◌, ◌⊎◌, inl, inr, ⊎_elim, ℕ, Bool, List, [], ◌∷◌, get_or, Option, Some, None, is_some, refl, sym, ◌∙◌, ap, subst, arith}
use Rattle.host_model.specs.Picture.{Picture}
use Rattle.fate_runner.specs.declared.text.StepWords.{StepWords}
use Rattle.fate_runner.specs.declared.forms.TxStatus.{TxStatus}
use Rattle.fate_runner.specs.declared.forms.TxStatus.TheVariants.{Submitted, InProgress, FailedInProgress, Failed, Successful}
use Rattle.fate_runner.specs.Book.{Book, with_status, IsLawful}
use Rattle.fate_trial.specs.declared.layout.Slot.{Slot}
use Rattle.fate_trial.specs.declared.layout.Slot.TheVariants.{Status, Lower, Upper, Walls, Roof}
use Rattle.host_model.specs.State.{HostState}
use Rattle.fate_runner.specs.declared.forms.Going.{Going}
use Rattle.fate_trial.specs.declared.levels.Level.{Level}
use Rattle.fate_trial.specs.declared.levels.Level.TheVariants.{Raise, Cover}
use Rattle.fate_trial.specs.declared.site.Site.{Site}
use Rattle.fate_trial.specs.Site.{nodes_of, GoesOn}
use Rattle.fate_trial.specs.Layout.{slot_path, has}
use Rattle.fate_trial.specs.Stored.{IsOfBook, Alike}
use Rattle.fate_trial.specs.Towers.{IsGoing, Fits, Unknown, Waits, At_raise, At_cover, Undone, Ended, tower_meaning, tower_reason, tower_answer, level_words, LevelSuits}
use Rattle.fate_trial.specs.SlotLemmas.{letter, slots_apart, slot-same}

-- numbers by which statuses differ, and stacks
abbrev pub status_code : Option TxStatus → ℕ
status_code None = 0
status_code (Some Submitted) = 1
status_code (Some InProgress) = 2
status_code (Some FailedInProgress) = 3
status_code (Some Failed) = 4
status_code (Some Successful) = 5

abbrev pub size_code : List StepWords → ℕ
size_code [] = 0
size_code (w ∷ ws) = 1

going_code : (s : Option TxStatus) → IsGoing s → (status_code s ≡ 2) ⊎ (status_code s ≡ 3)
going_code s (inl is) = inl (ap status_code is)
going_code s (inr is) = inr (ap status_code is)

-- the slots of a book are no part of a tower
pub apart : (slot part : Slot) → IsOfBook slot → (part ≡ Walls) ⊎ (part ≡ Roof) → letter part ≡ letter slot → ⊥
apart Status part own (inl is) same = omega (arith, same, ap letter is)
apart Status part own (inr is) same = omega (arith, same, ap letter is)
apart Lower part own (inl is) same = omega (arith, same, ap letter is)
apart Lower part own (inr is) same = omega (arith, same, ap letter is)
apart Upper part own (inl is) same = omega (arith, same, ap letter is)
apart Upper part own (inr is) same = omega (arith, same, ap letter is)
apart Walls part own is same = absurd own
apart Roof part own is same = absurd own

part_kept : (part : Slot) → (part ≡ Walls) ⊎ (part ≡ Roof) → (u : ℕ) (p q : Picture) → Alike p q → has (nodes_of q) part u ≡ has (nodes_of p) part u
part_kept part is u p q alike = ap (λ v. is_some v) (slot-same (nodes_of p) (nodes_of q) part u (λ small. alike.outside (slot_path part u) (λ slot tid own. slots_apart part slot u tid (apart slot part own is))))

starts : (b : Book) (walls roof : Bool) → b.status ≡ Some Submitted → Fits b walls roof → Fits (with_status InProgress None b) walls roof
starts b walls roof is (Unknown s k w r) = absurd (omega (arith, ap status_code is, ap status_code s))
starts b walls roof is (Waits s k w r) = At_raise (inl refl) k r
starts b walls roof is (At_raise s k r) = absurd (⊎_elim (λ (e : status_code b.status ≡ 2). omega (arith, ap status_code is, e)) (λ (e : status_code b.status ≡ 3). omega (arith, ap status_code is, e)) (going_code b.status s))
starts b walls roof is (At_cover s k w) = absurd (⊎_elim (λ (e : status_code b.status ≡ 2). omega (arith, ap status_code is, e)) (λ (e : status_code b.status ≡ 3). omega (arith, ap status_code is, e)) (going_code b.status s))
starts b walls roof is (Undone s k w r) = absurd (⊎_elim (λ e. omega (arith, ap status_code is, ap status_code e)) (λ e. omega (arith, ap status_code is, ap status_code e)) s)
starts b walls roof is (Ended s k w r) = absurd (omega (arith, ap status_code is, ap status_code s))

gives_up : (b : Book) (walls roof : Bool) → b.status ≡ Some FailedInProgress → b.stack ≡ [] → Fits b walls roof → Fits (with_status Failed None b) walls roof
gives_up b walls roof is none (Unknown s k w r) = absurd (omega (arith, ap status_code is, ap status_code s))
gives_up b walls roof is none (Waits s k w r) = absurd (omega (arith, ap size_code none, ap size_code k))
gives_up b walls roof is none (At_raise s k r) = absurd (omega (arith, ap size_code none, ap size_code k))
gives_up b walls roof is none (At_cover s k w) = absurd (omega (arith, ap size_code none, ap size_code k))
gives_up b walls roof is none (Undone s k w r) = Undone (inr refl) k w r
gives_up b walls roof is none (Ended s k w r) = absurd (omega (arith, ap status_code is, ap status_code s))

pub tower_lawful : IsLawful tower_meaning
tower_lawful = record {
  relies = λ u p q b leaves fits. subst (λ r. Fits b (has (nodes_of q) Walls u) r) (sym leaves.roof) (subst (λ w. Fits b w (has (nodes_of p) Roof u)) (sym leaves.walls) fits);
  keeps_book = λ u p q leaves. leaves.book;
  stays = λ u p. record { book = refl; walls = refl; roof = refl };
  goes_on = λ u p q r one two. record { book = two.book ∙ one.book; walls = two.walls ∙ one.walls; roof = two.roof ∙ one.roof };
  alike_leaves = λ u p q alike same. record { book = same; walls = part_kept Walls (inl refl) u p q alike; roof = part_kept Roof (inr refl) u p q alike };
  alike_fits = λ u p q b alike fits.
      subst (λ r. Fits b (has (nodes_of q) Walls u) r) (sym (part_kept Roof (inr refl) u p q alike)) (subst (λ w. Fits b w (has (nodes_of p) Roof u)) (sym (part_kept Walls (inl refl) u p q alike)) fits);
  alike_rest = λ p q alike rest. alike.readable rest;
  starts = λ t p b is fits. starts b (has (nodes_of p) Walls t) (has (nodes_of p) Roof t) is fits;
  gives_up = λ t p b is none fits. gives_up b (has (nodes_of p) Walls t) (has (nodes_of p) Roof t) is none fits;
}

module _ {H : Type 0} where
  pub same_reason : (step : Level) (tid : ℕ) (going : Going) (old new : Site H) → new ≡ old → tower_reason going new.nodes.nodes ≡ tower_reason going old.nodes.nodes
  same_reason step tid going old new same = ap (λ (e : Site H). tower_reason going e.nodes.nodes) same

  pub same_answer : (step : Level) (tid : ℕ) (old new : Site H) → new ≡ old → tower_answer step tid new.nodes.nodes ≡ tower_answer step tid old.nodes.nodes
  same_answer step tid old new same = ap (λ (e : Site H). tower_answer step tid e.nodes.nodes) same

  pub same_able : (state : H → HostState) (old new : Site H) → new ≡ old → GoesOn state old → GoesOn state new
  same_able state old new same able = subst (λ (e : Site H). GoesOn state e) (sym same) able

-- two steps that are spelled alike are one
pub one_spelling : (one two : Level) (kind : List ℕ) → LevelSuits one kind → LevelSuits two kind → level_words one ≡ level_words two → one ≡ two
one_spelling Raise Raise kind a b same = refl
one_spelling Raise Cover kind a b same = absurd (omega (arith, ap (λ (w : StepWords). get_or w.name 0 0) same))
one_spelling Cover Raise kind a b same = absurd (omega (arith, ap (λ (w : StepWords). get_or w.name 0 0) same))
one_spelling Cover Cover kind a b same = refl
