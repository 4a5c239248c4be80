-- The changes that push, pop and set a status.
use Rattle.std.proofs.Common.{◌≡◌, inl, inr, ℕ, cond, ◌^◌, ◌<◌, List, [], ◌∷◌, ◌++◌, length, Option, Some, None, is_some, Bool, true, false, refl, sym, ◌∙◌, ap, subst, arith}
use Rattle.std.proofs.lemmas.List.{take_at, drop_at}
use Rattle.node_store.specs.declared.changes.NodeOp.{NodeOp}
use Rattle.node_store.specs.declared.changes.NodeOp.TheVariants.{Create, Delete}
use Rattle.node_store.specs.Nodes.{Nodes}
use Rattle.fate_runner.specs.declared.text.StepWords.{StepWords}
use Rattle.fate_runner.specs.Book.{pushed, popped, tail_of}
use Rattle.fate_trial.specs.declared.layout.Slot.{Slot}
use Rattle.fate_trial.specs.declared.layout.Slot.TheVariants.{Status, Lower, Upper, Walls, Roof}
use Rattle.fate_trial.specs.Layout.{slot_path, slot_value, value_at, has}
use Rattle.fate_trial.specs.Stored.{status_in, cause_in, kind_in, step_value, words_in, book_from, book_of, WritesBook, IsFree, IsTopSlot, HasNoPlace, PushChanges, PopChanges}
use Rattle.fate_trial.proofs.Values.{written-own, written-past}
use Rattle.fate_trial.specs.SlotLemmas.{slots_apart, slot-small}
use Rattle.fate_trial.proofs.ReadyLemmas.{IsReady, applies_ready}

-- ---- values

step_words : (w : StepWords) → words_in (Some (step_value w)) ≡ w ∷ []
step_words w = λ i. record { name = take_at w.name w.argument (length w.name) refl i; argument = drop_at w.name w.argument (length w.name) refl i } ∷ []

module _ (nodes : Nodes) (t : ℕ) (small : t < 2 ^ 64) where
  -- ---- a push

  pub push_upper : (w : StepWords) → value_at nodes (slot_path Upper t) ≡ None → WritesBook t nodes (Create (slot_path Upper t) (step_value w) ∷ []) (pushed w (book_of nodes t))
  unfolding book_of
  push_upper w free = record {
    own = ((Upper, tt, refl), tt);
    applies = applies_ready (op ∷ []) nodes (subst (λ v. IsReady op v) (sym free) tt, λ after is. tt);
    is = (λ i. book_from (written-past op (slot_path Status t) s (slots_apart Status Upper t t (λ e. omega (arith, e))) i) (written-past op (slot_path Lower t) l (slots_apart Lower Upper t t (λ e. omega (arith, e))) i) (written-own op (slot_path Upper t) u refl i))
        ∙ (λ i. record { status = status_in s; cause = cause_in s; kind = kind_in s; stack = (ap (λ ws. ws ++ words_in l) (step_words w) ∙ ap (λ x. w ∷ (words_in x ++ words_in l)) (sym (slot-small nodes Upper t small ∙ free))) i });
  }
    where
      op : NodeOp
      op = Create (slot_path Upper t) (step_value w)

      s : Option (List ℕ)
      s = slot_value nodes Status t

      l : Option (List ℕ)
      l = slot_value nodes Lower t

      u : Option (List ℕ)
      u = slot_value nodes Upper t

  pub push_lower : (w : StepWords) → value_at nodes (slot_path Upper t) ≡ None → value_at nodes (slot_path Lower t) ≡ None → WritesBook t nodes (Create (slot_path Lower t) (step_value w) ∷ []) (pushed w (book_of nodes t))
  unfolding book_of
  push_lower w free_upper free = record {
    own = ((Lower, tt, refl), tt);
    applies = applies_ready (op ∷ []) nodes (subst (λ v. IsReady op v) (sym free) tt, λ after is. tt);
    is = (λ i. book_from (written-past op (slot_path Status t) s (slots_apart Status Lower t t (λ e. omega (arith, e))) i) (written-own op (slot_path Lower t) l refl i) ((written-past op (slot_path Upper t) u (slots_apart Upper Lower t t (λ e. omega (arith, e))) ∙ no_upper) i))
        ∙ (λ i. record { status = status_in s; cause = cause_in s; kind = kind_in s; stack = (step_words w ∙ (λ j. w ∷ (words_in (no_upper_back j) ++ words_in (no_lower_back j)))) i });
  }
    where
      op : NodeOp
      op = Create (slot_path Lower t) (step_value w)

      s : Option (List ℕ)
      s = slot_value nodes Status t

      l : Option (List ℕ)
      l = slot_value nodes Lower t

      u : Option (List ℕ)
      u = slot_value nodes Upper t

      no_upper : u ≡ None
      no_upper = slot-small nodes Upper t small ∙ free_upper

      no_upper_back : None ≡ u
      no_upper_back = sym no_upper

      no_lower_back : None ≡ l
      no_lower_back = sym (slot-small nodes Lower t small ∙ free)

  -- ---- a pop

  pub pop_upper : (v : List ℕ) → value_at nodes (slot_path Upper t) ≡ Some v → WritesBook t nodes (Delete (slot_path Upper t) None ∷ []) (popped (book_of nodes t))
  unfolding book_of
  pop_upper v there = record {
    own = ((Upper, tt, refl), tt);
    applies = applies_ready (op ∷ []) nodes (subst (λ x. IsReady op x) (sym there) tt, λ after is. tt);
    is = (λ i. book_from (written-past op (slot_path Status t) s (slots_apart Status Upper t t (λ e. omega (arith, e))) i) (written-past op (slot_path Lower t) l (slots_apart Lower Upper t t (λ e. omega (arith, e))) i) (written-own op (slot_path Upper t) u refl i))
        ∙ (λ i. record { status = status_in s; cause = cause_in s; kind = kind_in s; stack = tail_of (words_in (upper_back i) ++ words_in l) });
  }
    where
      op : NodeOp
      op = Delete (slot_path Upper t) None

      s : Option (List ℕ)
      s = slot_value nodes Status t

      l : Option (List ℕ)
      l = slot_value nodes Lower t

      u : Option (List ℕ)
      u = slot_value nodes Upper t

      upper_back : Some v ≡ u
      upper_back = sym (slot-small nodes Upper t small ∙ there)

  pub pop_lower : (v : List ℕ) → value_at nodes (slot_path Upper t) ≡ None → value_at nodes (slot_path Lower t) ≡ Some v → WritesBook t nodes (Delete (slot_path Lower t) None ∷ []) (popped (book_of nodes t))
  unfolding book_of
  pop_lower v free there = record {
    own = ((Lower, tt, refl), tt);
    applies = applies_ready (op ∷ []) nodes (subst (λ x. IsReady op x) (sym there) tt, λ after is. tt);
    is = (λ i. book_from (written-past op (slot_path Status t) s (slots_apart Status Lower t t (λ e. omega (arith, e))) i) (written-own op (slot_path Lower t) l refl i) ((written-past op (slot_path Upper t) u (slots_apart Upper Lower t t (λ e. omega (arith, e))) ∙ sym no_upper_back) i))
        ∙ (λ i. record { status = status_in s; cause = cause_in s; kind = kind_in s; stack = tail_of (words_in (no_upper_back i) ++ words_in (lower_back i)) });
  }
    where
      op : NodeOp
      op = Delete (slot_path Lower t) None

      s : Option (List ℕ)
      s = slot_value nodes Status t

      l : Option (List ℕ)
      l = slot_value nodes Lower t

      u : Option (List ℕ)
      u = slot_value nodes Upper t

      no_upper_back : None ≡ u
      no_upper_back = sym (slot-small nodes Upper t small ∙ free)

      lower_back : Some v ≡ l
      lower_back = sym (slot-small nodes Lower t small ∙ there)

  -- ---- by the slot

  pub gone : (slot : Slot) → has nodes slot t ≡ false → value_at nodes (slot_path slot t) ≡ None
  gone slot is = sym (slot-small nodes slot t small) ∙ none_of (slot_value nodes slot t) is
    where
      none_of : (v : Option (List ℕ)) → is_some v ≡ false → v ≡ None
      none_of None e = refl
      none_of (Some v) e = absurd (cc)

  pub there : (slot : Slot) → has nodes slot t ≡ true → (v : List ℕ) × (value_at nodes (slot_path slot t) ≡ Some v)
  there slot is = let found = some_of (slot_value nodes slot t) is in (found.0, sym (slot-small nodes slot t small) ∙ found.1)
    where
      some_of : (v : Option (List ℕ)) → is_some v ≡ true → (x : List ℕ) × (v ≡ Some x)
      some_of None e = absurd (cc)
      some_of (Some v) e = (v, refl)

  pub push_written : (slot : Slot) (w : StepWords) (ops : List NodeOp) → ops ≡ Create (slot_path slot t) (step_value w) ∷ [] → IsFree nodes t (Some slot) → WritesBook t nodes ops (pushed w (book_of nodes t))
  push_written Status w ops is free = absurd free
  push_written Lower w ops is free = subst (λ l. WritesBook t nodes l (pushed w (book_of nodes t))) (sym is) (push_lower w (gone Upper free.0) (gone Lower free.1))
  push_written Upper w ops is free = subst (λ l. WritesBook t nodes l (pushed w (book_of nodes t))) (sym is) (push_upper w (gone Upper free.0))
  push_written Walls w ops is free = absurd free
  push_written Roof w ops is free = absurd free

  pub pop_written : (slot : Slot) (ops : List NodeOp) → ops ≡ Delete (slot_path slot t) None ∷ [] → IsTopSlot nodes t (Some slot) → WritesBook t nodes ops (popped (book_of nodes t))
  pop_written Status ops is top = absurd top
  pop_written Lower ops is top = subst (λ l. WritesBook t nodes l (popped (book_of nodes t))) (sym is) (let found = there Lower top.1 in pop_lower found.0 (gone Upper top.0) found.1)
  pop_written Upper ops is top = subst (λ l. WritesBook t nodes l (popped (book_of nodes t))) (sym is) (let found = there Upper top in pop_upper found.0 found.1)
  pop_written Walls ops is top = absurd top
  pop_written Roof ops is top = absurd top

  -- ---- what the changes of a call make

  pub push_writes : (w : StepWords) (ops : List NodeOp) → PushChanges nodes t w ops → WritesBook t nodes ops (pushed w (book_of nodes t))
  push_writes w ops changes = push_written changes.slot w ops changes.is changes.free

  pub pop_writes : (ops : List NodeOp) → PopChanges nodes t ops → WritesBook t nodes ops (popped (book_of nodes t))
  pop_writes ops changes = pop_written changes.slot ops changes.is changes.top

  -- ---- where there are changes, nothing is refused

  clash : {b : Bool} → b ≡ true → b ≡ false → ⊥
  clash is other = omega (arith, ap {B = ℕ} (λ b. cond b 1 0) (sym is ∙ other))

  pub has_place : (w : StepWords) (ops : List NodeOp) → PushChanges nodes t w ops → HasNoPlace nodes t w → ⊥
  has_place w ops changes (inl two) = free (changes.slot) changes.free
    where
      free : (slot : Slot) → IsFree nodes t (Some slot) → ⊥
      free Status is = is
      free Lower is = clash two is.0
      free Upper is = clash two is.0
      free Walls is = is
      free Roof is = is
  has_place w ops changes (inr long) = omega (arith, changes.short, long)

  pub has_top : (ops : List NodeOp) → PopChanges nodes t ops → IsTopSlot nodes t None → ⊥
  has_top ops changes none = top (changes.slot) changes.top
    where
      top : (slot : Slot) → IsTopSlot nodes t (Some slot) → ⊥
      top Status is = is
      top Lower is = clash is.1 none.1
      top Upper is = clash is none.0
      top Walls is = is
      top Roof is = is
