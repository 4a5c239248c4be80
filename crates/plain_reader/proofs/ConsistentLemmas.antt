-- Cells with one key and time.
use Rattle.std.proofs.Common.{◌≡◌, inl, inr, List, [], ◌∷◌, ◌++◌, Contains, subst}
use Rattle.std.proofs.lemmas.List.Elements.{Contains-append_cases}
use Rattle.level_rows.proofs.Membership.{Contains-nil}
use Rattle.cell_merge.specs.declared.cell.Cell.{Cell}
use Rattle.cell_merge.specs.Changes.{AreConsistent}
use Rattle.state_reader.proofs.RowLists.{last_is}
use Rattle.plain_reader.specs.Consistent.{Clash, Accord, AgreesWith}

pub agrees_none : (cell : Cell) → AgreesWith [] cell
agrees_none cell = record { each = λ other there key time. absurd (Contains-nil other there) }

pub agrees_more : (cells : List Cell) (cell other : Cell) → AgreesWith cells cell → Accord other cell → AgreesWith (cells ++ other ∷ []) cell
agrees_more cells cell other agrees accord = record {
  each = λ x there. (elim (Contains-append_cases cells (other ∷ []) x there) [
    | inl front ↦ agrees.each x front
    | inr last ↦ subst (λ (c : Cell). c.key ≡ cell.key → c.time ≡ cell.time → c ≡ cell) (last_is other x last) accord.same
  ]);
}

-- all of these cells agree with each of those
pub record AgreeAll (cells those : List Cell) : Type 0 where
  pub each : (cell : Cell) → Contains those cell → AgreesWith cells cell

pub agree_none : (cells : List Cell) → AgreeAll cells []
agree_none cells = record { each = λ cell there. absurd (Contains-nil cell there) }

pub agree_more : (cells those : List Cell) (cell : Cell) → AgreeAll cells those → AgreesWith cells cell → AgreeAll cells (those ++ cell ∷ [])
agree_more cells those cell agree here = record {
  each = λ x there. (elim (Contains-append_cases those (cell ∷ []) x there) [
    | inl front ↦ agree.each x front
    | inr last ↦ subst (AgreesWith cells) (last_is cell x last) here
  ]);
}

pub consistent_of : (cells : List Cell) → AgreeAll cells cells → AreConsistent cells
consistent_of cells agree = record { one = λ a b in_a in_b key time. (agree.each b in_b).each a in_a key time }

pub twice_of : (cells : List Cell) (cell : Cell) → Contains cells cell → (AgreesWith cells cell → ⊥) → AreConsistent cells → ⊥
twice_of cells cell there apart are = apart (record { each = λ other in_other key time. are.one other cell in_other there key time })

-- a cell that clashes with one of them
pub clashes : (cells : List Cell) (cell other : Cell) → Contains cells other → Clash other cell → AgreesWith cells cell → ⊥
clashes cells cell other there clash agrees = clash.apart (agrees.each other there clash.key clash.time)
