-- The content of a tablet whose files are replaced.
use Rattle.std.proofs.Common.{◌≡◌, ◌⊎◌, inl, inr, ℕ, ◌≤◌, List, ◌++◌, Contains, Option, Some, None, refl, sym, ◌∙◌, subst, arith}
use Rattle.std.specs.Option.{option_map}
use Rattle.std.proofs.lemmas.Option.{same_Some}
use Rattle.std.proofs.lemmas.List.Elements.{Contains-append_left, Contains-append_right, Contains-append_cases}
use Rattle.metadata_schema.specs.declared.tablet.TabletRecord.{TabletRecord}
use Rattle.cell_merge.specs.declared.cell.Cell.{Cell}
use Rattle.cell_merge.specs.Newest.{clipped, latest}
use Rattle.cell_merge.specs.Changes.{Covers, IsAsLate, IsDropped}
use Rattle.cell_merge.proofs.LatestLemmas.{IsAnswer, latest_is}
use Rattle.store_meaning.specs.Ground.{Ground}
use Rattle.store_meaning.specs.Content.{both_told, all_told, file_cells, log_cells, logs_of, content_of}
use Rattle.store_meaning.specs.ChainWrites.{HasCovered}
use Rattle.store_meaning.specs.Flushes.{memory_of}
use Rattle.store_meaning.specs.FileChanges.{stored_of, ReplacesFiles}
use Rattle.store_meaning.proofs.ContentLemmas.{clip_both}
use Rattle.store_meaning.proofs.ExtentLemmas.{logs_same}
use Rattle.store_meaning.proofs.MemberLemmas.{both_are}

-- content is what is in files, and behind it what is in memory
content_parts : (known : Ground) (low : Option (List ℕ)) (tablet : TabletRecord) → content_of known low tablet ≡ both_told (stored_of known low tablet) (memory_of known low tablet)
content_parts known low tablet = clip_both low tablet.end (all_told (file_cells known) tablet.files) (all_told (log_cells known tablet) (logs_of tablet))

-- fewer cells cover more, beside cells of which none is earlier than a removal that is dropped
covers_beside : (fewer all memory : List Cell) → Covers fewer all → ((removal cell : Cell) → Contains all removal → removal.value ≡ None → Contains memory cell → cell.key ≡ removal.key → removal.time ≤ cell.time) → Covers (fewer ++ memory) (all ++ memory)
covers_beside fewer all memory covers removals = record {
  within = λ cell there. elim (Contains-append_cases fewer memory cell there) [
    | inl few ↦ Contains-append_left all memory cell (covers.within cell few)
    | inr mem ↦ Contains-append_right all memory cell mem
  ];
  covered = λ cell there. elim (Contains-append_cases all memory cell there) [
    | inl old ↦ elim (covers.covered cell old) [
      | inl late ↦ inl (late.0, record { there = Contains-append_left fewer memory late.0 late.1.there; key = late.1.key; time = late.1.time })
      | inr dropped ↦ beside cell dropped.0 dropped.1 (latest memory cell.key) (latest_is memory cell.key)
    ]
    | inr mem ↦ inl (cell, record { there = Contains-append_right fewer memory cell mem; key = refl; time = omega arith })
  ];
}
  where
    beside : (cell removal : Cell) → IsDropped fewer all cell removal → (o : Option Cell) → IsAnswer memory cell.key o → ((other : Cell) × IsAsLate (fewer ++ memory) cell other) ⊎ ((other : Cell) × IsDropped (fewer ++ memory) (all ++ memory) cell other)
    beside cell removal dropped None none = inr (
      removal,
      record {
        late = record { there = Contains-append_left all memory removal dropped.late.there; key = dropped.late.key; time = dropped.late.time };
        removes = dropped.removes;
        none = λ other there key. elim (Contains-append_cases fewer memory other there) [ inl few ↦ dropped.none other few key | inr mem ↦ none other mem key ];
      },
    )
    beside cell removal dropped (Some other) found =
        let later = removals removal other dropped.late.there dropped.removes found.there (found.at ∙ sym dropped.late.key) in
        let late = dropped.late.time in
        inl (other, record { there = Contains-append_right fewer memory other found.there; key = found.at; time = omega (arith, later, late) })

pub files_covered : (known : Ground) (low : Option (List ℕ)) (old new : TabletRecord) → ReplacesFiles known low old new → (was : List Cell) → content_of known low old ≡ Some was → HasCovered was (content_of known low new)
files_covered known low old new replaces was is =
    let memory_now : memory_of known low new ≡ Some replaces.memory =
    (λ i. option_map (clipped low (replaces.end i)) (logs_same known old new replaces.table replaces.bar replaces.logs i)) ∙ replaces.in_memory in
    let before : was ≡ replaces.stored ++ replaces.memory =
    same_Some _ _ (sym is ∙ content_parts known low old ∙ both_are (stored_of known low old) (memory_of known low old) replaces.stored replaces.memory replaces.in_files replaces.in_memory) in
    record {
      cells = replaces.covered.cells ++ replaces.memory;
      is = content_parts known low new ∙ both_are (stored_of known low new) (memory_of known low new) replaces.covered.cells replaces.memory replaces.covered.is memory_now;
      covers = subst (Covers (replaces.covered.cells ++ replaces.memory)) (sym before) (covers_beside replaces.covered.cells replaces.stored replaces.memory replaces.covered.covers replaces.removals);
    }
