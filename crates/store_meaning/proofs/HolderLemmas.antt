-- The content of a tablet whose holders and logs alone change.
use Rattle.std.proofs.Common.{◌≡◌, inl, inr, ℕ, ◌&&◌, true, List, Contains, Option, Some, refl, sym, ◌∙◌, ap, subst, arith, ltb}
use Rattle.std.proofs.lemmas.Bool.{and_from, false≢true}
use Rattle.std.proofs.lemmas.Option.{same_Some}
use Rattle.row_keys.specs.RowOrder.{is_within}
use Rattle.metadata_schema.specs.declared.mutation.Mutation.{Mutation}
use Rattle.metadata_schema.specs.declared.tablet.TabletRecord.{TabletRecord}
use Rattle.metadata_schema.specs.Bytes.{same}
use Rattle.cell_merge.specs.declared.cell.Cell.{Cell}
use Rattle.store_meaning.specs.Ground.{Ground}
use Rattle.store_meaning.specs.Content.{cells_of_mutation, counts_for, logs_of, content_of}
use Rattle.store_meaning.specs.ChainWrites.{HasCovered}
use Rattle.store_meaning.specs.Holders.{HoldsNothingFor, ChangesHolders, HasSameCells}
use Rattle.store_meaning.proofs.ContentLemmas.{of_mutation, content_has, content_in, file_told, log_told, content_told}

-- no mutation of a log that holds nothing counts, and gives a cell within the extent
not_there : (known : Ground) (low : Option (List ℕ)) (tablet : TabletRecord) (log : List ℕ) (mutations : List Mutation) (mutation : Mutation) (cell : Cell) → HoldsNothingFor known low tablet log → known.mutations_of log ≡ Some mutations
    → Contains mutations mutation → counts_for tablet mutation ≡ true → Contains (cells_of_mutation mutation) cell → is_within low tablet.end cell.key.row ≡ true → ⊥
not_there known low tablet log mutations mutation cell nothing told there counts writes within =
    let row = (of_mutation mutation cell writes).0 in
    let in_it : Contains nothing.mutations mutation = subst (λ ms. Contains ms mutation) (same_Some _ _ (sym told ∙ nothing.told)) there in
    let counted = and_from (counts_for tablet mutation) (is_within low tablet.end mutation.row) counts (ap (is_within low tablet.end) (sym row) ∙ within) in
    false≢true (sym (nothing.none mutation in_it) ∙ counted)

module _ (known : Ground) (low : Option (List ℕ)) (old new : TabletRecord) (changes : ChangesHolders known low old new) (was : List Cell) (is : content_of known low old ≡ Some was) where
  logs_told : (log : List ℕ) → Contains (logs_of new) log → (mutations : List Mutation) × (known.mutations_of log ≡ Some mutations)
  logs_told log there = elim (changes.comes log there) [
    | inl before ↦ log_told known low old was is log before
    | inr nothing ↦ (nothing.mutations, nothing.told)
  ]

  now : (cells : List Cell) × (content_of known low new ≡ Some cells)
  now = content_told known low new (λ file there. file_told known low old was is file (subst (λ l. Contains l file) changes.files there)) logs_told

  counted : (mutation : Mutation) → counts_for new mutation ≡ counts_for old mutation
  counted mutation = λ i. same mutation.table (changes.table i) && ltb (changes.bar i) mutation.time

  within_old : (cell : Cell) → is_within low new.end cell.key.row ≡ is_within low old.end cell.key.row
  within_old cell = ap (λ end. is_within low end cell.key.row) changes.end

  forth : (cell : Cell) → Contains now.0 cell → Contains was cell
  forth cell there =
      let h = content_has known low new now.0 now.1 cell there in
      let within = sym (within_old cell) ∙ h.0 in
      elim h.1 [
        | inl f ↦ content_in known low old was is cell within
            (inl (record { file = f.file; of = subst (λ l. Contains l f.file) changes.files f.of; cells = f.cells; told = f.told; stored = f.stored; there = f.there; is = f.is }))
        | inr l ↦ elim (changes.comes l.log l.of) [
          | inl before ↦ content_in known low old was is cell within
              (inr (record { log = l.log; of = before; mutations = l.mutations; told = l.told; mutation = l.mutation; there = l.there; counts = sym (counted l.mutation) ∙ l.counts; writes = l.writes }))
          | inr nothing ↦ absurd (not_there known low old l.log l.mutations l.mutation cell nothing l.told l.there (sym (counted l.mutation) ∙ l.counts) l.writes within)
        ]
      ]

  back : (cell : Cell) → Contains was cell → Contains now.0 cell
  back cell there =
      let h = content_has known low old was is cell there in
      content_in known low new now.0 now.1 cell (within_old cell ∙ h.0) (elim h.1 [
        | inl f ↦ inl (record { file = f.file; of = subst (λ l. Contains l f.file) (sym changes.files) f.of; cells = f.cells; told = f.told; stored = f.stored; there = f.there; is = f.is })
        | inr l ↦ inr (elim (changes.goes l.log l.of) [
          | inl still ↦ record { log = l.log; of = still; mutations = l.mutations; told = l.told; mutation = l.mutation; there = l.there; counts = counted l.mutation ∙ l.counts; writes = l.writes }
          | inr nothing ↦ absurd (not_there known low old l.log l.mutations l.mutation cell nothing l.told l.there l.counts l.writes h.0)
        ])
      ])

  pub holders_same : HasSameCells was (content_of known low new)
  holders_same = record { cells = now.0; is = now.1; each = λ cell. (forth cell, back cell) }

-- the same cells leave each key what it had
pub same_covered : (old : List Cell) (told : Option (List Cell)) → HasSameCells old told → HasCovered old told
same_covered old told same_cells = record {
  cells = same_cells.cells;
  is = same_cells.is;
  covers = record {
    within = λ cell there. (same_cells.each cell).0 there;
    covered = λ cell there. inl (cell, record { there = (same_cells.each cell).1 there; key = refl; time = omega arith });
  };
}
