-- Content as one mutation more stands in a log.
use Rattle.std.proofs.Common.{◌≡◌, ◌≢◌, ◌⊎◌, inl, inr, ℕ, Bool, true, false, cond, ◌&&◌, List, [], ◌∷◌, ◌++◌, map, filter, Contains, Option, Some, None, refl, sym, ◌∙◌, ap, subst}
use Rattle.std.specs.List.{flat_map}
use Rattle.std.specs.Option.{option_map}
use Rattle.std.proofs.lemmas.Bool.{cases_Bool, and_parts}
use Rattle.std.proofs.lemmas.Option.{same_Some}
use Rattle.std.proofs.lemmas.Grind.{flat_map-append}
use Rattle.std.proofs.lemmas.List.{append-nil}
use Rattle.std.proofs.lemmas.List.Elements.{Contains-append_left, Contains-push, Contains-push_cases, filter-append}
use Rattle.row_keys.specs.RowOrder.{is_within}
use Rattle.metadata_schema.specs.declared.mutation.Mutation.{Mutation}
use Rattle.metadata_schema.specs.declared.mutation.Update.{Update}
use Rattle.metadata_schema.specs.declared.tablet.TabletRecord.{TabletRecord}
use Rattle.metadata_schema.specs.Bytes.{same}
use Rattle.cell_merge.specs.declared.cell.Cell.{Cell}
use Rattle.cell_merge.specs.Newest.{clipped}
use Rattle.level_rows.specs.Chain.{Rows, effective_prev}
use Rattle.level_rows.proofs.EndLemmas.{same-true, same-itself}
use Rattle.store_layout.specs.NewStore.{cell_of}
use Rattle.store_meaning.specs.Ground.{Ground}
use Rattle.store_meaning.specs.Content.{both_told, all_told, cells_of_mutation, counts_for, file_cells, log_cells, logs_of, content_of, tablet_content, contents_of}
use Rattle.store_meaning.specs.Writes.{appended, counts_in, HasGrown}
use Rattle.store_meaning.proofs.MemberLemmas.{all_each, all_in, all_has, all_some}
use Rattle.store_meaning.proofs.UseLemmas.{all_told_same}
use Rattle.store_meaning.proofs.ContentLemmas.{clip_both, clip_all, IsInLogs, of_mutation, content_has, content_in, file_told, log_told, content_told}

-- what is told holds all that was there, and of others only the mutation's cells
pub record Grows (mutation : Mutation) (old : List Cell) (told : Option (List Cell)) : Type 0 where
  pub cells : List Cell
  pub is : told ≡ Some cells
  pub from : (cell : Cell) → Contains cells cell → Contains old cell ⊎ Contains (cells_of_mutation mutation) cell
  pub keeps : (cell : Cell) → Contains old cell → Contains cells cell

module _ (known : Ground) (log : List ℕ) (mutation : Mutation) where
  abbrev after : Ground
  after = appended known log mutation

  -- the log has one mutation more, and another one what it had
  pub told_after : (other : List ℕ) (mutations : List Mutation) → known.mutations_of other ≡ Some mutations
      → ((other ≡ log) × (after.mutations_of other ≡ Some (mutations ++ mutation ∷ []))) ⊎ ((other ≢ log) × (after.mutations_of other ≡ Some mutations))
  told_after other mutations e = by (same other log) refl
    where
      by : (b : Bool) → same other log ≡ b
          → ((other ≡ log) × (cond b (option_map (λ ms. ms ++ mutation ∷ []) (known.mutations_of log)) (known.mutations_of other) ≡ Some (mutations ++ mutation ∷ [])))
          ⊎ ((other ≢ log) × (cond b (option_map (λ ms. ms ++ mutation ∷ []) (known.mutations_of log)) (known.mutations_of other) ≡ Some mutations))
      by true is = (let at = same-true other log is in inl (at, ap (option_map (λ ms. ms ++ mutation ∷ [])) (ap known.mutations_of (sym at) ∙ e)))
      by false is = inr (λ at. (let wrong : true ≡ false = sym (same-itself other log at) ∙ is in cc), e)

  module _ (low : Option (List ℕ)) (tablet : TabletRecord) (old : List Cell) (was : content_of known low tablet ≡ Some old) where
    log_told_after : (other : List ℕ) → Contains (logs_of tablet) other → (mutations : List Mutation) × (after.mutations_of other ≡ Some mutations)
    log_told_after other there =
        let t = log_told known low tablet old was other there in
        elim (told_after other t.0 t.1) [ inl here ↦ (t.0 ++ mutation ∷ [], here.1) | inr elsewhere ↦ (t.0, elsewhere.1) ]

    now : (cells : List Cell) × (content_of after low tablet ≡ Some cells)
    now = content_told after low tablet (file_told known low tablet old was) log_told_after

    from_log : (cell : Cell) → is_within low tablet.end cell.key.row ≡ true → IsInLogs after tablet cell → Contains old cell ⊎ Contains (cells_of_mutation mutation) cell
    from_log cell within i =
        let t = log_told known low tablet old was i.log i.of in
        let before = λ (m : Mutation) (at : Contains t.0 m) (is : i.mutation ≡ m).
        content_in known low tablet old was cell within (inr (record {
          log = i.log;
          of = i.of;
          mutations = t.0;
          told = t.1;
          mutation = m;
          there = at;
          counts = ap (counts_for tablet) (sym is) ∙ i.counts;
          writes = subst (λ w. Contains (cells_of_mutation w) cell) is i.writes;
        })) in
        elim (told_after i.log t.0 t.1) [
          | inl here ↦ elim (Contains-push_cases t.0 mutation i.mutation (subst (λ l. Contains l i.mutation) (same_Some _ _ (sym i.told ∙ here.1)) i.there)) [
            | inl there ↦ inl (before i.mutation there refl)
            | inr is ↦ inr (subst (λ w. Contains (cells_of_mutation w) cell) (sym is) i.writes)
          ]
          | inr elsewhere ↦ inl (before i.mutation (subst (λ l. Contains l i.mutation) (same_Some _ _ (sym i.told ∙ elsewhere.1)) i.there) refl)
        ]

    pub grows : Grows mutation old (content_of after low tablet)
    grows = record {
      cells = now.0;
      is = now.1;
      from = λ cell there. (let h = content_has after low tablet now.0 now.1 cell there in
          elim h.1 [
            | inl f ↦ inl (content_in known low tablet old was cell h.0 (inl (record { file = f.file; of = f.of; cells = f.cells; told = f.told; stored = f.stored; there = f.there; is = f.is })))
            | inr l ↦ from_log cell h.0 l
          ]);
      keeps = λ cell there. (let h = content_has known low tablet old was cell there in
          content_in after low tablet now.0 now.1 cell h.0 (elim h.1 [
            | inl f ↦ inl (record { file = f.file; of = f.of; cells = f.cells; told = f.told; stored = f.stored; there = f.there; is = f.is })
            | inr l ↦ inr (elim (told_after l.log l.mutations l.told) [
              | inl here ↦ record { log = l.log; of = l.of; mutations = l.mutations ++ mutation ∷ []; told = here.1; mutation = l.mutation; there = Contains-append_left l.mutations (mutation ∷ []) l.mutation l.there; counts = l.counts; writes = l.writes }
              | inr elsewhere ↦ record { log = l.log; of = l.of; mutations = l.mutations; told = elsewhere.1; mutation = l.mutation; there = l.there; counts = l.counts; writes = l.writes }
            ])
          ]));
    }

    -- where it counts, its cells are there
    pub gains : Contains (logs_of tablet) log → counts_in low tablet mutation ≡ true → (cell : Cell) → Contains (cells_of_mutation mutation) cell → Contains grows.cells cell
    gains named counts cell writes =
        let parts = and_parts (counts_for tablet mutation) (is_within low tablet.end mutation.row) counts in
        let t = log_told known low tablet old was log named in
        content_in after low tablet grows.cells grows.is cell (ap (is_within low tablet.end) (of_mutation mutation cell writes).0 ∙ parts.1) (inr (elim (told_after log t.0 t.1) [
          | inl here ↦ record { log = log; of = named; mutations = t.0 ++ mutation ∷ []; told = here.1; mutation = mutation; there = Contains-push t.0 mutation; counts = parts.0; writes = writes }
          | inr elsewhere ↦ absurd (elsewhere.0 refl)
        ]))

    pub has_grown : Contains (logs_of tablet) log → counts_in low tablet mutation ≡ true → HasGrown mutation old (content_of after low tablet)
    has_grown named counts = record {
      cells = grows.cells;
      is = grows.is;
      each = λ cell. (grows.from cell, λ in_it. elim in_it [ inl there ↦ grows.keeps cell there | inr fresh ↦ gains named counts cell fresh ]);
    }

  -- ---- where it doesn't count

  other_log : (other : List ℕ) → other ≢ log → after.mutations_of other ≡ known.mutations_of other
  other_log other apart = by (same other log) refl
    where
      by : (b : Bool) → same other log ≡ b → cond b (option_map (λ ms. ms ++ mutation ∷ []) (known.mutations_of log)) (known.mutations_of other) ≡ known.mutations_of other
      by true is = absurd (apart (same-true other log is))
      by false is = refl

  pub not_named : (low : Option (List ℕ)) (tablet : TabletRecord) → (Contains (logs_of tablet) log → ⊥) → content_of after low tablet ≡ content_of known low tablet
  not_named low tablet none = ap (λ l. option_map (clipped low tablet.end) (both_told (all_told (file_cells known) tablet.files) l))
      (all_told_same (log_cells known tablet) (log_cells after tablet) (logs_of tablet) (λ other there.
      ap (option_map (λ mutations. flat_map cells_of_mutation (filter (counts_for tablet) mutations))) (other_log other (λ at. none (subst (Contains (logs_of tablet)) at there)))))

  -- cells of a row outside are clipped
  clip_outside : (low high : Option (List ℕ)) (row : List ℕ) (time : ℕ) (updates : List Update) → is_within low high row ≡ false → clipped low high (map (cell_of row time) updates) ≡ []
  clip_outside low high row time [] out = refl
  clip_outside low high row time (u ∷ us) out = ap (λ b. cond b (cell_of row time u ∷ clipped low high (map (cell_of row time) us)) (clipped low high (map (cell_of row time) us))) out ∙ clip_outside low high row time us out

  module _ (low : Option (List ℕ)) (tablet : TabletRecord) (out : counts_in low tablet mutation ≡ false) where
    abbrev counted : List Mutation → List Cell
    counted mutations = flat_map cells_of_mutation (filter (counts_for tablet) mutations)

    -- the mutation alone gives nothing
    alone : clipped low tablet.end (counted (mutation ∷ [])) ≡ []
    alone = by (counts_for tablet mutation) refl
      where
        by : (b : Bool) → counts_for tablet mutation ≡ b → clipped low tablet.end (flat_map cells_of_mutation (cond b (mutation ∷ []) [])) ≡ []
        by true is =
            let outside : is_within low tablet.end mutation.row ≡ false = ap (λ b. b && is_within low tablet.end mutation.row) (sym is) ∙ out in
            ap (clipped low tablet.end) (append-nil (cells_of_mutation mutation)) ∙ clip_outside low tablet.end mutation.row mutation.time mutation.updates outside
        by false is = refl

    pushed : (mutations : List Mutation) → clipped low tablet.end (counted (mutations ++ mutation ∷ [])) ≡ clipped low tablet.end (counted mutations)
    pushed mutations =
        ap (λ ms. clipped low tablet.end (flat_map cells_of_mutation ms)) (filter-append (counts_for tablet) mutations (mutation ∷ []))
        ∙ ap (clipped low tablet.end) (flat_map-append cells_of_mutation (filter (counts_for tablet) mutations) (filter (counts_for tablet) (mutation ∷ [])))
        ∙ filter-append (λ (c : Cell). is_within low tablet.end c.key.row) (counted mutations) (counted (mutation ∷ []))
        ∙ ap (λ l. clipped low tablet.end (counted mutations) ++ l) alone
        ∙ append-nil (clipped low tablet.end (counted mutations))

    one_log : (other : List ℕ) → option_map (clipped low tablet.end) (log_cells after tablet other) ≡ option_map (clipped low tablet.end) (log_cells known tablet other)
    one_log other = by (same other log) refl
      where
        told : (o : Option (List Mutation)) → option_map (clipped low tablet.end) (option_map counted (option_map (λ ms. ms ++ mutation ∷ []) o)) ≡ option_map (clipped low tablet.end) (option_map counted o)
        told None = refl
        told (Some mutations) = ap Some (pushed mutations)

        by : (b : Bool) → same other log ≡ b
            → option_map (clipped low tablet.end) (option_map counted (cond b (option_map (λ ms. ms ++ mutation ∷ []) (known.mutations_of log)) (known.mutations_of other))) ≡ option_map (clipped low tablet.end) (option_map counted (known.mutations_of other))
        by true is = told (known.mutations_of log) ∙ ap (λ l. option_map (clipped low tablet.end) (option_map counted (known.mutations_of l))) (sym (same-true other log is))
        by false is = refl

    pub elsewhere : content_of after low tablet ≡ content_of known low tablet
    elsewhere =
        clip_both low tablet.end (all_told (file_cells known) tablet.files) (all_told (log_cells after tablet) (logs_of tablet))
        ∙ ap (both_told (option_map (clipped low tablet.end) (all_told (file_cells known) tablet.files)))
        (clip_all low tablet.end (log_cells after tablet) (logs_of tablet)
        ∙ all_told_same (λ l. option_map (clipped low tablet.end) (log_cells known tablet l)) (λ l. option_map (clipped low tablet.end) (log_cells after tablet l)) (logs_of tablet) (λ l there. one_log l)
        ∙ sym (clip_all low tablet.end (log_cells known tablet) (logs_of tablet)))
        ∙ sym (clip_both low tablet.end (all_told (file_cells known) tablet.files) (all_told (log_cells known tablet) (logs_of tablet)))

  -- ---- the tablets of a chain

  pub no_table : (low : Option (List ℕ)) (tablet : TabletRecord) → tablet.table ≢ mutation.table → counts_in low tablet mutation ≡ false
  no_table low tablet apart = elim (cases_Bool (counts_in low tablet mutation)) [
    | inl is ↦ absurd (
        let parts = and_parts (counts_for tablet mutation) (is_within low tablet.end mutation.row) is in
        apart (sym (same-true mutation.table tablet.table (and_parts (same mutation.table tablet.table) _ parts.0).0)))
    | inr is ↦ is
  ]

  pub other_tables : (rows : Rows) (chain : List TabletRecord) → ((tablet : TabletRecord) → Contains chain tablet → tablet.table ≢ mutation.table) → contents_of after rows chain ≡ contents_of known rows chain
  other_tables rows chain apart = all_told_same (tablet_content known rows) (tablet_content after rows) chain (λ tablet there.
      elsewhere (effective_prev rows tablet) tablet (no_table (effective_prev rows tablet) tablet (apart tablet there)))

  module _ (rows : Rows) (chain : List TabletRecord) (old : List Cell) (was : contents_of known rows chain ≡ Some old) where
    each_grows : (tablet : TabletRecord) (there : Contains chain tablet) → Grows mutation (all_each (tablet_content known rows) chain old was tablet there).0 (tablet_content after rows tablet)
    each_grows tablet there = let e = all_each (tablet_content known rows) chain old was tablet there in grows (effective_prev rows tablet) tablet e.0 e.1

    chain_now : (cells : List Cell) × (contents_of after rows chain ≡ Some cells)
    chain_now = all_some (tablet_content after rows) chain (λ tablet there. (let g = each_grows tablet there in (g.cells, g.is)))

    pub chain_grows : Grows mutation old (contents_of after rows chain)
    chain_grows = record {
      cells = chain_now.0;
      is = chain_now.1;
      from = λ cell there.
          let h = all_has (tablet_content after rows) chain chain_now.0 chain_now.1 cell there in
          let e = all_each (tablet_content known rows) chain old was h.0 h.2 in
          let g = each_grows h.0 h.2 in
          elim (g.from cell (subst (λ l. Contains l cell) (same_Some _ _ (sym h.3 ∙ g.is)) h.4)) [
            | inl was_there ↦ inl (all_in (tablet_content known rows) chain old was h.0 e.0 cell h.2 e.1 was_there)
            | inr fresh ↦ inr fresh
          ];
      keeps = λ cell there.
          let h = all_has (tablet_content known rows) chain old was cell there in
          let e = all_each (tablet_content known rows) chain old was h.0 h.2 in
          let g = each_grows h.0 h.2 in
          all_in (tablet_content after rows) chain chain_now.0 chain_now.1 h.0 g.cells cell h.2 g.is (g.keeps cell (subst (λ l. Contains l cell) (same_Some _ _ (sym h.3 ∙ e.1)) h.4));
    }

    pub chain_has_grown : (holder : TabletRecord) → Contains chain holder → Contains (logs_of holder) log → counts_in (effective_prev rows holder) holder mutation ≡ true → HasGrown mutation old (contents_of after rows chain)
    chain_has_grown holder there named counts = record {
      cells = chain_grows.cells;
      is = chain_grows.is;
      each = λ cell. (
        chain_grows.from cell,
        λ in_it. elim in_it [
          | inl was_there ↦ chain_grows.keeps cell was_there
          | inr fresh ↦
              let e = all_each (tablet_content known rows) chain old was holder there in
              let g = grows (effective_prev rows holder) holder e.0 e.1 in
              all_in (tablet_content after rows) chain chain_grows.cells chain_grows.is holder g.cells cell there g.is (gains (effective_prev rows holder) holder e.0 e.1 named counts cell fresh)
        ],
      );
    }
