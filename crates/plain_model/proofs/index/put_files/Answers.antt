use Rattle.std.proofs.Common.{◌∙◌, ap, get_or}
use Rattle.std.specs.FinMap as map
use Rattle.plain_model.specs.Apply.{put_all, entries_of}
use Rattle.plain_model.specs.declared.tables.PlainStaged.{PlainStaged}
use Rattle.plain_model.proofs.PairLemmas.{put_files-found, put_files-missing, entries_of-listed}
use Rattle.plain_model.proofs.index.put_files.Goals.{in-Ok+in_ok-put_copies-in-Ok, in-Err}
use Rattle.plain_model.proofs.index.put_files.Goals as goal

pub loop-name-preserved : goal.loop-name-preserved
loop-name-preserved c = λ staged m next files start whole.
    let before = c.loop-name.invariant staged m next files start whole in
    elim c.match-place_of_staged.branch [
      | in-Ok+in_ok-put_copies-in-Ok w ↦
          let found = w.in-Ok.ensures.place staged files in
          let file = ap (λ items. get_or items w.in-Ok.place w.index-files-place.result) files ∙ found.at w.index-files-place.result in
          let entries = ap entries_of (w.as_slice.ensures ∙ ap (λ (f : PlainStaged). f.pairs) file) ∙ entries_of-listed found.value in (
            put_all (map.entries found.value) before.0,
            ap (λ index. index.entries) w.index-is ∙ w.in_ok-put_copies-in-Ok.ensures before.0 before.1 ∙ ap (λ es. map.entries (put_all es before.0)) entries,
            put_files-found staged c.args.names.now c.loop-name.name-index c.name-item.result before.0 next c.loop-name-test.true c.name-item.is before.2 found.value found.has,
          )
      | in-Err w ↦ put_files-missing staged c.args.names.now c.loop-name.name-index c.name-item.result before.0 next c.loop-name-test.true c.name-item.is before.2 (w.in-Err.ensures.place staged files).has_not
    ]
