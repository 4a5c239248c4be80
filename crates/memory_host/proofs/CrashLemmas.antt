-- Each pick is one that a crash may leave.
use Rattle.std.proofs.Common.{◌≡◌, inl, inr, ℕ, ◌+◌, ◌≤◌, max, Bool, true, false, cond, ◌||◌, List, [], ◌∷◌, length, replicate, Option, Some, None, Result, Ok, Err, IfOk, refl, sym, ◌∙◌, ap, subst, arith, take-append-drop}
use Rattle.std.specs.Option.{option_map}
use Rattle.std.proofs.lemmas.Bool.{cases_Bool}
use Rattle.std.proofs.lemmas.Option.{same_Some}
use Rattle.std.proofs.lemmas.List.{length-replicate}
use Rattle.host_model.specs.Picture.{Image, Picture, file_at, set_file, FileStep, OnBytes, MayBecome}
use Rattle.host_model.specs.Calls.{Torn, TearsFile}
use Rattle.host_model.proofs.Bytes.{torn-overlaid, length-overlaid}
use Rattle.host_model.proofs.Images.{cases_name, file_at-set_file_same, file_at-set_file_other, file_nothing, step_of}
use Rattle.memory_host.specs.declared.event.Written.{Written}
use Rattle.memory_host.specs.declared.event.Event.{Event}
use Rattle.memory_host.specs.declared.event.Event.TheVariants.{Write, Put, CutCreate, CutRemove, Sync, Say}
use Rattle.memory_host.specs.Files.{as_file}
use Rattle.memory_host.specs.Past.{before, taken_back, May}
use Rattle.memory_host.specs.PastLemmas.{stays}
use Rattle.memory_host.specs.Known.{Known, IsRun}
use Rattle.memory_host.specs.declared.pick.Pick.{Pick}
use Rattle.memory_host.specs.declared.pick.Pick.TheVariants.{Kept, Lost, Ones}
use Rattle.memory_host.specs.Crash.{is_named, nothing, ones, refilled, unsynced, all_landed, picked}
use Rattle.memory_host.specs.Walk.{unsynced_of}
use Rattle.memory_host.proofs.FileMapLemmas.{here, there}
use Rattle.memory_host.proofs.CallLemmas.{stays_there, torn-refl, some_there, is_there}

abbrev Rule : Type 0
Rule = Written → List ℕ → List ℕ

abbrev File : Type 0
File = Option (List ℕ)

cond_same : {A : Type 0} (b : Bool) (x : A) → cond b x x ≡ x
cond_same true x = refl
cond_same false x = refl

-- a file in a picture that a pick leaves
pub file_at-unsynced : (rule : Rule) (settled : List ℕ → Bool) (es : List Event) (now : Picture) (q : List ℕ) → file_at (unsynced rule settled es now) q ≡ cond (settled q) (file_at now.image q) (unsynced_of rule q es (file_at now.image q))
file_at-unsynced rule settled [] now q = sym (cond_same (settled q) (file_at now.image q))
file_at-unsynced rule settled (Write w ∷ es) now q =
    let b = before (Write w) now in
    let rest = unsynced rule settled es b in
    elim (cases_name q w.name) [
      | inl same ↦
          let at_name : file_at (unsynced rule settled (Write w ∷ es) now) w.name ≡ cond (settled w.name) (file_at now.image w.name) (unsynced_of rule w.name (Write w ∷ es) (file_at now.image w.name)) = elim (cases_Bool (settled w.name)) [
            | inl on ↦ ap (λ t. file_at (cond t (set_file rest w.name (file_at now.image w.name)) (refilled rule w rest)) w.name) on ∙ file_at-set_file_same rest w.name (file_at now.image w.name) ∙ sym (ap (λ t. cond t (file_at now.image w.name) (unsynced_of rule w.name (Write w ∷ es) (file_at now.image w.name))) on)
            | inr off ↦
                let old : file_at rest w.name ≡ unsynced_of rule w.name es (option_map (taken_back w) (file_at now.image w.name)) =
                file_at-unsynced rule settled es b w.name ∙ ap (λ t. cond t (file_at b.image w.name) (unsynced_of rule w.name es (file_at b.image w.name))) off ∙ ap (λ (o : File). unsynced_of rule w.name es o) (file_at-set_file_same now.image w.name (option_map (taken_back w) (file_at now.image w.name))) in
                ap (λ t. file_at (cond t (set_file rest w.name (file_at now.image w.name)) (refilled rule w rest)) w.name) off ∙ file_at-set_file_same rest w.name (option_map (rule w) (file_at rest w.name)) ∙ ap (λ (o : File). option_map (rule w) o) old
                ∙ sym (ap (λ t. cond t (option_map (rule w) (unsynced_of rule w.name es (option_map (taken_back w) (file_at now.image w.name)))) (unsynced_of rule w.name es (file_at now.image w.name))) (here w.name))
                ∙ sym (ap (λ t. cond t (file_at now.image w.name) (unsynced_of rule w.name (Write w ∷ es) (file_at now.image w.name))) off)
          ] in
          subst (λ n. file_at (unsynced rule settled (Write w ∷ es) now) n ≡ cond (settled n) (file_at now.image n) (unsynced_of rule n (Write w ∷ es) (file_at now.image n))) (sym same) at_name
      | inr other ↦
          let either : (t : Bool) → file_at (cond t (set_file rest w.name (file_at now.image w.name)) (refilled rule w rest)) q ≡ file_at rest q =
          λ t. elim (cases_Bool t) [
            | inl on ↦ ap (λ u. file_at (cond u (set_file rest w.name (file_at now.image w.name)) (refilled rule w rest)) q) on ∙ file_at-set_file_other rest w.name (file_at now.image w.name) q other
            | inr off ↦ ap (λ u. file_at (cond u (set_file rest w.name (file_at now.image w.name)) (refilled rule w rest)) q) off ∙ file_at-set_file_other rest w.name (option_map (rule w) (file_at rest w.name)) q other
          ] in
          either (settled w.name) ∙ file_at-unsynced rule settled es b q
          ∙ ap (λ (o : File). cond (settled q) o (unsynced_of rule q es o)) (file_at-set_file_other now.image w.name (option_map (taken_back w) (file_at now.image w.name)) q other)
          ∙ sym (ap (λ t. cond (settled q) (file_at now.image q) (cond t (option_map (rule w) (unsynced_of rule q es (option_map (taken_back w) (file_at now.image q)))) (unsynced_of rule q es (file_at now.image q)))) (there w.name q other))
    ]
file_at-unsynced rule settled (Put name was ∷ es) now q =
    let b = before (Put name was) now in
    let rest = unsynced rule settled es b in
    elim (cases_name q name) [
      | inl same ↦
          subst (λ n. file_at (set_file rest name (file_at now.image name)) n ≡ cond (settled n) (file_at now.image n) (unsynced_of rule n (Put name was ∷ es) (file_at now.image n))) (sym same)
          (file_at-set_file_same rest name (file_at now.image name) ∙ sym (cond_same (settled name) (file_at now.image name)) ∙ sym (ap (λ t. cond (settled name) (file_at now.image name) (cond t (file_at now.image name) (unsynced_of rule name es (file_at now.image name)))) (here name)))
      | inr other ↦
          file_at-set_file_other rest name (file_at now.image name) q other ∙ file_at-unsynced rule settled es b q
          ∙ ap (λ (o : File). cond (settled q) o (unsynced_of rule q es o)) (file_at-set_file_other now.image name (as_file was) q other)
          ∙ sym (ap (λ t. cond (settled q) (file_at now.image q) (cond t (file_at now.image q) (unsynced_of rule q es (file_at now.image q)))) (there name q other))
    ]
file_at-unsynced rule settled (CutCreate name ∷ es) now q = file_at-unsynced rule settled es now q
file_at-unsynced rule settled (CutRemove name was ∷ es) now q =
    let b = before (CutRemove name was) now in
    let rest = unsynced rule settled es b in
    elim (cases_name q name) [
      | inl same ↦
          let at_name : file_at (unsynced rule settled (CutRemove name was ∷ es) now) name ≡ cond (settled name) (file_at now.image name) (unsynced_of rule name (CutRemove name was ∷ es) (file_at now.image name)) = elim (cases_Bool (settled name)) [
            | inl on ↦ ap (λ t. file_at (cond t (set_file rest name (file_at now.image name)) rest) name) on ∙ file_at-set_file_same rest name (file_at now.image name) ∙ sym (ap (λ t. cond t (file_at now.image name) (unsynced_of rule name (CutRemove name was ∷ es) (file_at now.image name))) on)
            | inr off ↦
                ap (λ t. file_at (cond t (set_file rest name (file_at now.image name)) rest) name) off ∙ file_at-unsynced rule settled es b name ∙ ap (λ t. cond t (file_at b.image name) (unsynced_of rule name es (file_at b.image name))) off ∙ ap (λ (o : File). unsynced_of rule name es o) (file_at-set_file_same now.image name (Some was.items))
                ∙ sym (ap (λ t. cond t (unsynced_of rule name es (Some was.items)) (unsynced_of rule name es (file_at now.image name))) (here name))
                ∙ sym (ap (λ t. cond t (file_at now.image name) (unsynced_of rule name (CutRemove name was ∷ es) (file_at now.image name))) off)
          ] in
          subst (λ n. file_at (unsynced rule settled (CutRemove name was ∷ es) now) n ≡ cond (settled n) (file_at now.image n) (unsynced_of rule n (CutRemove name was ∷ es) (file_at now.image n))) (sym same) at_name
      | inr other ↦
          let either : (t : Bool) → file_at (cond t (set_file rest name (file_at now.image name)) rest) q ≡ file_at rest q =
          λ t. elim (cases_Bool t) [
            | inl on ↦ ap (λ u. file_at (cond u (set_file rest name (file_at now.image name)) rest) q) on ∙ file_at-set_file_other rest name (file_at now.image name) q other
            | inr off ↦ ap (λ u. file_at (cond u (set_file rest name (file_at now.image name)) rest) q) off
          ] in
          either (settled name) ∙ file_at-unsynced rule settled es b q
          ∙ ap (λ (o : File). cond (settled q) o (unsynced_of rule q es o)) (file_at-set_file_other now.image name (Some was.items) q other)
          ∙ sym (ap (λ t. cond (settled q) (file_at now.image q) (cond t (unsynced_of rule q es (Some was.items)) (unsynced_of rule q es (file_at now.image q)))) (there name q other))
    ]
file_at-unsynced rule settled (Sync name ∷ es) now q = file_at-unsynced rule (λ other. is_named name other || settled other) es now q ∙ elim (cases_Bool (is_named name q)) [
  | inl on ↦
      ap (λ t. cond (t || settled q) (file_at now.image q) (unsynced_of rule q es (file_at now.image q))) on
      ∙ sym (cond_same (settled q) (file_at now.image q)) ∙ sym (ap (λ t. cond (settled q) (file_at now.image q) (cond t (file_at now.image q) (unsynced_of rule q es (file_at now.image q)))) on)
  | inr off ↦ ap (λ t. cond (t || settled q) (file_at now.image q) (unsynced_of rule q es (file_at now.image q))) off ∙ sym (ap (λ t. cond (settled q) (file_at now.image q) (cond t (file_at now.image q) (unsynced_of rule q es (file_at now.image q)))) off)
]
file_at-unsynced rule settled (Say count ∷ es) now q = file_at-unsynced rule settled es (before (Say count) now) q

-- a settled file is as it is read
settled_stays : (rule : Rule) (settled : List ℕ → Bool) (es : List Event) (now : Picture) (q : List ℕ) → settled q ≡ true → file_at (unsynced rule settled es now) q ≡ file_at now.image q
settled_stays rule settled es now q on = file_at-unsynced rule settled es now q ∙ ap (λ t. cond t (file_at now.image q) (unsynced_of rule q es (file_at now.image q))) on

-- the rule tears the file of an unsynced write
abbrev Tears : Rule → Type 0
Tears rule = (settled : List ℕ → Bool) (es : List Event) (now : Picture) (w : Written) (read file : List ℕ) → IsRun es now → file_at now.image w.name ≡ Some read → file_at (unsynced rule settled es now) w.name ≡ Some file → w.at ≤ length read → Torn w.at w.count file (rule w file)

pub unsynced_may : (rule : Rule) → Tears rule → (settled : List ℕ → Bool) (es : List Event) (now : Picture) → IsRun es now → May es now (record { image = unsynced rule settled es now; said = now.said })
unsynced_may rule tears settled [] now runs = refl
unsynced_may rule tears settled (Write w ∷ es) now runs =
    let b = before (Write w) now in
    let rest : Image = unsynced rule settled es b in
    let left : May es b (record { image = rest; said = now.said }) = unsynced_may rule tears settled es b runs.1 in
    inr (record {
      start = record { image = rest; said = now.said };
      left = left;
      steps = elim (cases_Bool (settled w.name)) [
        | inl on ↦ subst (λ t. TearsFile w.name w.at w.count (record { image = rest; said = now.said }) (record { image = cond t (set_file rest w.name (file_at now.image w.name)) (refilled rule w rest); said = now.said })) (sym on) (record {
          said = refl;
          steps = record {
            after = file_at now.image w.name;
            steps = subst (λ (o : File). OnBytes (Torn w.at w.count) o (file_at now.image w.name)) (sym (settled_stays rule settled es b w.name on)) (step_of runs.0.torn.steps);
            is = refl;
          };
        })
        | inr off ↦
            let file = some_there (file_at rest w.name) (stays_there es b (record { image = rest; said = now.said }) w.name left (is_there (file_at b.image w.name) runs.0.there.file runs.0.there.is)) in
            subst (λ t. TearsFile w.name w.at w.count (record { image = rest; said = now.said }) (record { image = cond t (set_file rest w.name (file_at now.image w.name)) (refilled rule w rest); said = now.said })) (sym off) (record {
              said = refl;
              steps = record {
                after = option_map (rule w) (file_at rest w.name);
                steps = record { before = file.0; after = rule w file.0; was = file.1; is = ap (λ (o : File). option_map (rule w) o) file.1; steps = tears settled es b w runs.0.there.file file.0 runs.1 runs.0.there.is file.1 runs.0.there.within };
                is = refl;
              };
            })
      ];
    })
unsynced_may rule tears settled (Put name was ∷ es) now runs = inr (record {
  start = record { image = unsynced rule settled es (before (Put name was) now); said = now.said };
  left = unsynced_may rule tears settled es (before (Put name was) now) runs;
  steps = record { said = refl; steps = record { after = file_at now.image name; steps = refl; is = refl } };
})
unsynced_may rule tears settled (CutCreate name ∷ es) now runs = inr (record {
  start = record { image = unsynced rule settled es now; said = now.said };
  left = unsynced_may rule tears settled es now runs;
  steps = file_nothing name (MayBecome (Some [])) _ (inl refl);
})
unsynced_may rule tears settled (CutRemove name was ∷ es) now runs =
    let b = before (CutRemove name was) now in
    let rest : Image = unsynced rule settled es b in
    inr (record {
      start = record { image = rest; said = now.said };
      left = unsynced_may rule tears settled es b runs.1;
      steps = elim (cases_Bool (settled name)) [
        | inl on ↦ subst (λ t. FileStep name (MayBecome (file_at now.image name)) (record { image = rest; said = now.said }) (record { image = cond t (set_file rest name (file_at now.image name)) rest; said = now.said })) (sym on) (record { said = refl; steps = record { after = file_at now.image name; steps = inr refl; is = refl } })
        | inr off ↦ subst (λ t. FileStep name (MayBecome (file_at now.image name)) (record { image = rest; said = now.said }) (record { image = cond t (set_file rest name (file_at now.image name)) rest; said = now.said })) (sym off) (file_nothing name (MayBecome (file_at now.image name)) _ (inl refl))
      ];
    })
unsynced_may rule tears settled (Sync name ∷ es) now runs =
    let more = λ (other : List ℕ). is_named name other || settled other in
    inr (unsynced_may rule tears more es now runs, settled_stays rule more es now name (ap (λ t. t || settled name) (here name)))
unsynced_may rule tears settled (Say count ∷ es) now runs = inr (record {
  start = record { image = unsynced rule settled es (before (Say count) now); said = (before (Say count) now).said };
  left = unsynced_may rule tears settled es (before (Say count) now) runs;
  steps = record { image = refl; said = sym (take-append-drop _ now.said) };
})

pub nothing_tears : Tears nothing
nothing_tears settled es now w read file runs reads is within = torn-refl w.at w.count file

pub all_landed_may : (es : List Event) (now : Picture) → May es now (record { image = all_landed es now; said = now.said })
all_landed_may [] now = refl
all_landed_may (Write w ∷ es) now = inl refl
all_landed_may (Put name was ∷ es) now = inl refl
all_landed_may (CutCreate name ∷ es) now = inr (record { start = now; left = stays es now; steps = record { said = refl; steps = record { after = Some []; steps = inr refl; is = refl } } })
all_landed_may (CutRemove name was ∷ es) now = inl refl
all_landed_may (Sync name ∷ es) now = inl refl
all_landed_may (Say count ∷ es) now = inl refl

-- where the first is there, the second is, and is no shorter
abbrev NotShorter : File → File → Type 0
NotShorter None o = Unit {0}
NotShorter (Some read) o = (file : List ℕ) × (o ≡ Some file) × (length read ≤ length file)

not_shorter-refl : (o : File) → NotShorter o o
not_shorter-refl None = tt
not_shorter-refl (Some read) = (read, refl, omega arith)

not_shorter-same : (a b c d : File) → a ≡ c → b ≡ d → NotShorter c d → NotShorter a b
not_shorter-same a b c d first second one = subst (λ x. NotShorter x b) (sym first) (subst (λ y. NotShorter c y) (sym second) one)

not_shorter-None : (a b : File) → a ≡ None → NotShorter a b
not_shorter-None a b is = subst (λ x. NotShorter x b) (sym is) tt

-- the file after a torn write is no longer than one with ones in its range
torn_not_shorter : (w : Written) (a b c : File) → OnBytes (Torn w.at w.count) a b → ((read : List ℕ) → a ≡ Some read → w.at ≤ length read) → NotShorter a c → NotShorter b (option_map (ones w) c)
torn_not_shorter w a b c torn within one =
    let more : (file : List ℕ) × (c ≡ Some file) × (length torn.before ≤ length file) = subst (λ x. NotShorter x c) torn.was one in
    let at : w.at ≤ length torn.before = within torn.before torn.was in
    let size : length (ones w more.0) ≡ max (length more.0) (w.at + w.count) = length-overlaid more.0 w.at (replicate w.count 1) (omega (arith, at, more.2)) ∙ ap (λ n. max (length more.0) (w.at + n)) (length-replicate w.count 1) in
    subst (λ x. NotShorter x (option_map (ones w) c)) (sym torn.is) (ones w more.0, ap (λ (o : File). option_map (ones w) o) more.1, omega (arith, size, torn.steps.no_longer, more.2))

long_enough : (settled : List ℕ → Bool) (es : List Event) (now : Picture) (q : List ℕ) → IsRun es now → NotShorter (file_at now.image q) (file_at (unsynced ones settled es now) q)
long_enough settled [] now q runs = not_shorter-refl (file_at now.image q)
long_enough settled (Write w ∷ es) now q runs =
    let b = before (Write w) now in
    let rest : Image = unsynced ones settled es b in
    elim (cases_name q w.name) [
      | inl same ↦ subst (λ n. NotShorter (file_at now.image n) (file_at (unsynced ones settled (Write w ∷ es) now) n)) (sym same) (elim (cases_Bool (settled w.name)) [
        | inl on ↦ not_shorter-same _ _ _ _ refl (settled_stays ones settled (Write w ∷ es) now w.name on) (not_shorter-refl (file_at now.image w.name))
        | inr off ↦ not_shorter-same _ _ _ _ refl (ap (λ t. file_at (cond t (set_file rest w.name (file_at now.image w.name)) (refilled ones w rest)) w.name) off ∙ file_at-set_file_same rest w.name (option_map (ones w) (file_at rest w.name)))
            (torn_not_shorter w (file_at b.image w.name) (file_at now.image w.name) (file_at rest w.name) (step_of runs.0.torn.steps) (λ read is. omega (arith, runs.0.there.within, ap length (same_Some _ _ (sym is ∙ runs.0.there.is)))) (long_enough settled es b w.name runs.1))
      ])
      | inr other ↦
          let either : (t : Bool) → file_at (cond t (set_file rest w.name (file_at now.image w.name)) (refilled ones w rest)) q ≡ file_at rest q =
          λ t. elim (cases_Bool t) [
            | inl on ↦ ap (λ u. file_at (cond u (set_file rest w.name (file_at now.image w.name)) (refilled ones w rest)) q) on ∙ file_at-set_file_other rest w.name (file_at now.image w.name) q other
            | inr off ↦ ap (λ u. file_at (cond u (set_file rest w.name (file_at now.image w.name)) (refilled ones w rest)) q) off ∙ file_at-set_file_other rest w.name (option_map (ones w) (file_at rest w.name)) q other
          ] in
          not_shorter-same _ _ _ _ (sym (file_at-set_file_other now.image w.name (option_map (taken_back w) (file_at now.image w.name)) q other)) (either (settled w.name)) (long_enough settled es b q runs.1)
    ]
long_enough settled (Put name was ∷ es) now q runs =
    let rest : Image = unsynced ones settled es (before (Put name was) now) in
    elim (cases_name q name) [
      | inl same ↦ subst (λ n. NotShorter (file_at now.image n) (file_at (set_file rest name (file_at now.image name)) n)) (sym same) (not_shorter-same _ _ _ _ refl (file_at-set_file_same rest name (file_at now.image name)) (not_shorter-refl (file_at now.image name)))
      | inr other ↦ not_shorter-same _ _ _ _ (sym (file_at-set_file_other now.image name (as_file was) q other)) (file_at-set_file_other rest name (file_at now.image name) q other) (long_enough settled es (before (Put name was) now) q runs)
    ]
long_enough settled (CutCreate name ∷ es) now q runs = long_enough settled es now q runs
long_enough settled (CutRemove name was ∷ es) now q runs =
    let b = before (CutRemove name was) now in
    let rest : Image = unsynced ones settled es b in
    elim (cases_name q name) [
      | inl same ↦ not_shorter-None _ _ (subst (λ n. file_at now.image n ≡ None) (sym same) runs.0)
      | inr other ↦
          let either : (t : Bool) → file_at (cond t (set_file rest name (file_at now.image name)) rest) q ≡ file_at rest q =
          λ t. elim (cases_Bool t) [
            | inl on ↦ ap (λ u. file_at (cond u (set_file rest name (file_at now.image name)) rest) q) on ∙ file_at-set_file_other rest name (file_at now.image name) q other
            | inr off ↦ ap (λ u. file_at (cond u (set_file rest name (file_at now.image name)) rest) q) off
          ] in
          not_shorter-same _ _ _ _ (sym (file_at-set_file_other now.image name (Some was.items) q other)) (either (settled name)) (long_enough settled es b q runs.1)
    ]
long_enough settled (Sync name ∷ es) now q runs = long_enough (λ other. is_named name other || settled other) es now q runs
long_enough settled (Say count ∷ es) now q runs = long_enough settled es (before (Say count) now) q runs

pub ones_tears : Tears ones
ones_tears settled es now w read file runs reads is within =
    let more : (long : List ℕ) × (file_at (unsynced ones settled es now) w.name ≡ Some long) × (length read ≤ length long) = subst (λ x. NotShorter x (file_at (unsynced ones settled es now) w.name)) reads (long_enough settled es now w.name runs) in
    let same : more.0 ≡ file = same_Some _ _ (sym more.1 ∙ is) in
    subst (λ n. Torn w.at n file (ones w file)) (length-replicate w.count 1) (torn-overlaid file w.at (replicate w.count 1) (omega (arith, within, more.2, ap length same)))

pub picked_may : (pick : Pick) (k : Known) → IsRun k.past k.now → May k.past k.now (record { image = picked pick k; said = k.now.said })
picked_may Kept k runs = all_landed_may k.past k.now
picked_may Lost k runs = unsynced_may nothing nothing_tears (λ _. false) k.past k.now runs
picked_may Ones k runs = unsynced_may ones ones_tears (λ _. false) k.past k.now runs

-- and so the files that were made by one
pub made_may : {E : Type 0} (pick : Pick) (k : Known) (result : Result Image E) → IsRun k.past k.now → IfOk result (λ files. files ≡ picked pick k) → IfOk result (λ files. May k.past k.now (record { image = files; said = k.now.said }))
made_may pick k (Ok files) runs is = subst (λ (i : Image). May k.past k.now (record { image = i; said = k.now.said })) (sym is) (picked_may pick k runs)
made_may pick k (Err e) runs is = tt
