-- The content of tablets that share their files and logs, in narrower extents.
use Rattle.std.proofs.Common.{◌≡◌, inl, inr, ℕ, Bool, true, false, cond, ◌&&◌, not, List, [], ◌∷◌, ◌++◌, filter, Contains, Option, Some, None, refl, sym, ◌∙◌, ap, ltb}
use Rattle.std.specs.List.{flat_map}
use Rattle.std.specs.Option.{option_map}
use Rattle.std.proofs.lemmas.Bool.{cases_Bool, and_parts, and_from, false≢true}
use Rattle.std.proofs.lemmas.List.Elements.{Contains-append_left, Contains-append_right, Contains-append_cases}
use Rattle.row_keys.specs.RowOrder.{is_below, is_above, is_up_to, is_within}
use Rattle.row_keys.proofs.RowOrderLemmas.{is_below-trans}
use Rattle.metadata_schema.specs.declared.mutation.Mutation.{Mutation}
use Rattle.metadata_schema.specs.declared.tablet.TabletRecord.{TabletRecord}
use Rattle.metadata_schema.specs.Bytes.{same}
use Rattle.cell_merge.specs.declared.cell.Cell.{Cell}
use Rattle.cell_merge.specs.Newest.{clipped}
use Rattle.level_rows.specs.Chain.{Rows, IsBelowEnd, effective_prev}
use Rattle.level_rows.proofs.Membership.{Contains-filter, Contains-in_filter}
use Rattle.store_meaning.specs.Ground.{Ground}
use Rattle.store_meaning.specs.Content.{both_told, all_told, cells_of_mutation, counts_for, file_cells, log_cells, logs_of, content_of, contents_of, tablet_content}
use Rattle.store_meaning.specs.Holders.{SharesCells, IsNarrower, AreHalves, HasSameCells}
use Rattle.store_meaning.proofs.ContentLemmas.{mapped, content_has}
use Rattle.store_meaning.proofs.MemberLemmas.{both_are}
use Rattle.store_meaning.proofs.UseLemmas.{all_told_same}

-- the same table, bar and logs give the same cells of logs
pub logs_same : (known : Ground) (whole part : TabletRecord) → part.table ≡ whole.table → part.time ≡ whole.time → logs_of part ≡ logs_of whole → all_told (log_cells known part) (logs_of part) ≡ all_told (log_cells known whole) (logs_of whole)
logs_same known whole part table bar logs =
    ap (all_told (log_cells known part)) logs ∙ all_told_same (log_cells known whole) (log_cells known part) (logs_of whole) (λ log there. one_log log)
  where
    counts_same : (mutation : Mutation) → counts_for part mutation ≡ counts_for whole mutation
    counts_same mutation = λ i. same mutation.table (table i) && ltb (bar i) mutation.time

    one_log : (log : List ℕ) → log_cells known part log ≡ log_cells known whole log
    one_log log = λ i. option_map (λ mutations. flat_map cells_of_mutation (filter (λ mutation. counts_same mutation i) mutations)) (known.mutations_of log)

same_cells : (known : Ground) (whole part : TabletRecord) → SharesCells whole part
    → both_told (all_told (file_cells known) part.files) (all_told (log_cells known part) (logs_of part)) ≡ both_told (all_told (file_cells known) whole.files) (all_told (log_cells known whole) (logs_of whole))
same_cells known whole part shares =
    ap (λ files. both_told (all_told (file_cells known) files) (all_told (log_cells known part) (logs_of part))) shares.files
    ∙ ap (both_told (all_told (file_cells known) whole.files)) (logs_same known whole part shares.table shares.bar shares.logs)

-- clipping to a narrower range
clip_twice : (low high within_low within_high : Option (List ℕ)) → IsNarrower low high within_low within_high → (cells : List Cell) → clipped within_low within_high (clipped low high cells) ≡ clipped within_low within_high cells
clip_twice low high within_low within_high narrower [] = refl
clip_twice low high within_low within_high narrower (c ∷ cs) = by (is_within low high c.key.row) (is_within within_low within_high c.key.row) refl refl (clip_twice low high within_low within_high narrower cs)
  where
    by : (b d : Bool) → is_within low high c.key.row ≡ b → is_within within_low within_high c.key.row ≡ d → clipped within_low within_high (clipped low high cs) ≡ clipped within_low within_high cs
        → clipped within_low within_high (cond b (c ∷ clipped low high cs) (clipped low high cs)) ≡ cond d (c ∷ clipped within_low within_high cs) (clipped within_low within_high cs)
    by true d out inside rest = ap (λ e. cond e (c ∷ clipped within_low within_high (clipped low high cs)) (clipped within_low within_high (clipped low high cs))) inside
        ∙ ap (λ l. cond d (c ∷ l) l) rest
    by false true out inside rest = absurd (false≢true (sym out ∙ narrower.inside c.key.row inside))
    by false false out inside rest = rest

-- in a narrower extent there are the cells of its rows
pub narrower_content : (known : Ground) (low within_low : Option (List ℕ)) (whole part : TabletRecord) → SharesCells whole part → IsNarrower low whole.end within_low part.end → (cells : List Cell) → content_of known low whole ≡ Some cells
    → content_of known within_low part ≡ Some (clipped within_low part.end cells)
narrower_content known low within_low whole part shares narrower cells is =
    let m = mapped (clipped low whole.end) (both_told (all_told (file_cells known) whole.files) (all_told (log_cells known whole) (logs_of whole))) cells is in
    ap (option_map (clipped within_low part.end)) (same_cells known whole part shares ∙ m.1)
    ∙ ap Some (sym (clip_twice low whole.end within_low part.end narrower m.0) ∙ ap (clipped within_low part.end) m.2)

-- ---- halves

above_more : (low : Option (List ℕ)) (at row : List ℕ) → is_above low at ≡ true → is_below at row ≡ true → is_above low row ≡ true
above_more None at row above below = refl
above_more (Some low) at row above below = is_below-trans low at row above below

not_false : (b : Bool) → not b ≡ true → b ≡ false
not_false true e = cc
not_false false e = refl

up_to_more : (end : Option (List ℕ)) (at row : List ℕ) → IsBelowEnd at end → is_up_to (Some at) row ≡ true → is_up_to end row ≡ true
up_to_more None at row below up = refl
up_to_more (Some end) at row below up = by (is_below end row) refl
  where
    by : (b : Bool) → is_below end row ≡ b → not b ≡ true
    by true past = absurd (false≢true (sym (not_false (is_below at row) up) ∙ is_below-trans at end row below past))
    by false past = refl

module _ (known : Ground) (low : Option (List ℕ)) (at : List ℕ) (whole high lower : TabletRecord) (halves : AreHalves low at whole high lower) (was : List Cell) (is : content_of known low whole ≡ Some was) where
  high_narrower : IsNarrower low whole.end (Some at) high.end
  high_narrower = record {
    inside = λ row within.
        let parts = and_parts (is_above (Some at) row) (is_up_to high.end row) within in
        and_from (is_above low row) (is_up_to whole.end row) (above_more low at row halves.above parts.0) (ap (λ end. is_up_to end row) (sym halves.high_end) ∙ parts.1);
  }

  lower_narrower : IsNarrower low whole.end low lower.end
  lower_narrower = record {
    inside = λ row within.
        let parts = and_parts (is_above low row) (is_up_to lower.end row) within in
        and_from (is_above low row) (is_up_to whole.end row) parts.0 (up_to_more whole.end at row halves.below (ap (λ end. is_up_to end row) (sym halves.lower_end) ∙ parts.1));
  }

  high_is : content_of known (Some at) high ≡ Some (clipped (Some at) high.end was)
  high_is = narrower_content known low (Some at) whole high halves.high_cells high_narrower was is

  lower_is : content_of known low lower ≡ Some (clipped low lower.end was)
  lower_is = narrower_content known low low whole lower halves.lower_cells lower_narrower was is

  -- each cell is in one of them
  in_half : (cell : Cell) → Contains was cell → Contains (clipped (Some at) high.end was ++ clipped low lower.end was) cell
  in_half cell there =
      let within = (content_has known low whole was is cell there).0 in
      let parts = and_parts (is_above low cell.key.row) (is_up_to whole.end cell.key.row) within in
      elim (cases_Bool (is_below at cell.key.row)) [
        | inl past ↦ Contains-append_left (clipped (Some at) high.end was) (clipped low lower.end was) cell
            (Contains-in_filter (λ (c : Cell). is_within (Some at) high.end c.key.row) was cell there
            (and_from (is_above (Some at) cell.key.row) (is_up_to high.end cell.key.row) past (ap (λ end. is_up_to end cell.key.row) halves.high_end ∙ parts.1)))
        | inr before ↦ Contains-append_right (clipped (Some at) high.end was) (clipped low lower.end was) cell
            (Contains-in_filter (λ (c : Cell). is_within low lower.end c.key.row) was cell there
            (and_from (is_above low cell.key.row) (is_up_to lower.end cell.key.row) parts.0 (ap (λ end. is_up_to end cell.key.row) halves.lower_end ∙ ap not before)))
      ]

  pub halves_same : HasSameCells was (both_told (content_of known (Some at) high) (content_of known low lower))
  halves_same = record {
    cells = clipped (Some at) high.end was ++ clipped low lower.end was;
    is = both_are (content_of known (Some at) high) (content_of known low lower) (clipped (Some at) high.end was) (clipped low lower.end was) high_is lower_is;
    each = λ cell. (
      λ there. elim (Contains-append_cases (clipped (Some at) high.end was) (clipped low lower.end was) cell there) [
        | inl a ↦ (Contains-filter (λ (c : Cell). is_within (Some at) high.end c.key.row) was cell a).0
        | inr b ↦ (Contains-filter (λ (c : Cell). is_within low lower.end c.key.row) was cell b).0
      ],
      in_half cell,
    );
  }

-- ---- tablets that name nothing

pub no_content : (known : Ground) (low : Option (List ℕ)) (tablet : TabletRecord) → tablet.files ≡ [] → logs_of tablet ≡ [] → content_of known low tablet ≡ Some []
no_content known low tablet files logs = λ i. option_map (clipped low tablet.end) (both_told (all_told (file_cells known) (files i)) (all_told (log_cells known tablet) (logs i)))

pub no_contents : (known : Ground) (rows : Rows) (chain : List TabletRecord) → ((tablet : TabletRecord) → Contains chain tablet → (tablet.files ≡ []) × (logs_of tablet ≡ [])) → contents_of known rows chain ≡ Some []
no_contents known rows chain none =
    all_told_same (λ tablet. Some []) (tablet_content known rows) chain (λ tablet there. no_content known (effective_prev rows tablet) tablet (none tablet there).0 (none tablet there).1) ∙ nothing chain
  where
    nothing : (tablets : List TabletRecord) → all_told {Y = Cell} (λ tablet. Some []) tablets ≡ Some []
    nothing [] = refl
    nothing (t ∷ ts) = ap (both_told (Some [])) (nothing ts)
