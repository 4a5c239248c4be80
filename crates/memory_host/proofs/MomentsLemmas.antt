-- A change of the files tells what was read before.
use Rattle.std.proofs.Common.{◌≡◌, inl, inr, ℕ, ◌+◌, ◌-◌, ◌≤◌, List, [], ◌∷◌, ◌++◌, length, take, drop, reverse, Option, Some, None, Vec, refl, sym, ◌∙◌, ap, subst, arith, append_assoc, length-take, length-drop, take-append-drop}
use Rattle.std.specs.Option.{option_map}
use Rattle.std.specs.declared.alloc.Global.{Global}
use Rattle.std.proofs.lemmas.Bool.{cases_lt}
use Rattle.std.proofs.lemmas.List.{reverse-append, take_at, take_all, drop-drop}
use Rattle.host_model.specs.Picture.{Image, Picture, file_at, set_file, with_file, without_file, ChangesFile, OnBytes}
use Rattle.host_model.specs.Calls.{overlaid, Torn, Puts, Reaches}
use Rattle.host_model.proofs.Bytes.{torn-overlaid}
use Rattle.host_model.proofs.Images.{file_at-set_file_same, set_file-set_file, set_file-own}
use Rattle.memory_host.specs.declared.event.Written.{Written}
use Rattle.memory_host.specs.declared.event.Event.{Event}
use Rattle.memory_host.specs.declared.event.Event.TheVariants.{Write, Put, CutRemove}
use Rattle.memory_host.specs.Files.{as_file}
use Rattle.memory_host.specs.Past.{before, taken_back}
use Rattle.memory_host.specs.Known.{Known, IsRun, Wrote}
use Rattle.memory_host.specs.Moments.{AddsPut, CutsRemove, AddsWrite, KeepsOld}

pub reverse-push : (items pushed : List Event) (e : Event) → pushed ≡ items ++ e ∷ [] → reverse pushed ≡ e ∷ reverse items
reverse-push items pushed e is = ap (λ (l : List Event). reverse l) is ∙ reverse-append items (e ∷ [])

-- a torn write of a wider range
pub torn_wider : (at m n : ℕ) (old new : List ℕ) → m ≤ n → Torn at m old new → Torn at n old new
torn_wider at m n old new le torn =
    let sum : at + m + (n - m) ≡ at + n = omega (arith, le) in
    let far : (l : List ℕ) → drop (at + n) l ≡ drop (n - m) (drop (at + m) l) = λ l. ap (λ (k : ℕ). drop k l) (sym sum) ∙ sym (drop-drop (n - m) (at + m) l) in
    record {
      before = torn.before;
      after = far new ∙ ap (λ (l : List ℕ). drop (n - m) l) torn.after ∙ sym (far old);
      no_shorter = torn.no_shorter;
      no_longer = omega (arith, torn.no_longer, le);
    }

-- what stood there, written back
pub restored : (file landed : List ℕ) (at : ℕ) → at ≤ length file → take (length file) (overlaid (overlaid file at landed) at (take (length landed) (drop at file))) ≡ file
restored file landed at within = elim (cases_lt (length file) (at + length landed)) [
  | inl long ↦
      let all : take (length landed) (drop at file) ≡ drop at file = take_all (length landed) (drop at file) (omega (arith, length-drop at file, long)) in
      let whole : take at written ++ take (length landed) (drop at file) ≡ file = ap (λ (l : List ℕ). take at written ++ l) all ∙ ap (λ (l : List ℕ). l ++ drop at file) torn.before ∙ take-append-drop at file in
      ap (λ (l : List ℕ). take (length file) (l ++ drop (at + length (take (length landed) (drop at file))) written)) whole ∙ take_at file _ (length file) refl
  | inr short ↦
      let size : length (take (length landed) (drop at file)) ≡ length landed = omega (arith, length-take (length landed) (drop at file), length-drop at file, short, within) in
      let back : drop (at + length (take (length landed) (drop at file))) written ≡ drop (length landed) (drop at file) = ap (λ (k : ℕ). drop (at + k) written) size ∙ torn.after ∙ sym (drop-drop (length landed) at file) in
      let whole : take at written ++ take (length landed) (drop at file) ++ drop (at + length (take (length landed) (drop at file))) written ≡ file =
      ap (λ (l : List ℕ). take at written ++ take (length landed) (drop at file) ++ l) back ∙ append_assoc (take at written) (take (length landed) (drop at file)) (drop (length landed) (drop at file)) ∙ ap (λ (l : List ℕ). take at written ++ l) (take-append-drop (length landed) (drop at file)) ∙ ap (λ (l : List ℕ). l ++ drop at file) torn.before ∙ take-append-drop at file in
      ap (λ (l : List ℕ). take (length file) l) whole ∙ take_all (length file) file (omega arith)
]
  where
    written : List ℕ
    written = overlaid file at landed

    torn : Torn at (length landed) file (overlaid file at landed)
    torn = torn-overlaid file at landed within

-- to take out what isn't there changes nothing
pub removed_nothing : (image new : Image) (name : List ℕ) → new ≡ without_file image name → None ≡ file_at image name → new ≡ image
removed_nothing image new name set none = set ∙ set_file-own image name None (sym none)

abbrev known_of : Image → List ℕ → List Event → Known
known_of image said items = record { now = record { image = image; said = said }; past = reverse items }

abbrev picture : Image → List ℕ → Picture
picture image said = record { image = image; said = said }

module _ (image new : Image) (said : List ℕ) (items pushed : List Event) where
  put_undone : (name : List ℕ) (file : Option (List ℕ)) (was : Option (Vec ℕ Global)) → (new ≡ set_file image name file) × (as_file was ≡ file_at image name) → before (Put name was) (picture new said) ≡ picture image said
  put_undone name file was set =
      let same : set_file new name (as_file was) ≡ image = ap (λ i. set_file i name (as_file was)) set.0 ∙ set_file-set_file image name file (as_file was) ∙ set_file-own image name (as_file was) (sym set.1) in
      ap (λ i. picture i said) same

  pub put_adds : (name : List ℕ) (file : Option (List ℕ)) (was : Option (Vec ℕ Global)) → (new ≡ set_file image name file) × (as_file was ≡ file_at image name) → pushed ≡ items ++ Put name was ∷ [] → AddsPut name file (known_of image said items) (known_of new said pushed)
  put_adds name file was set is = record { was = was; adds = record { past = reverse-push items pushed (Put name was) is; undone = put_undone name file was set }; image = set.0; said = refl }

  pub put_runs : (name : List ℕ) (file : Option (List ℕ)) (was : Option (Vec ℕ Global)) → (new ≡ set_file image name file) × (as_file was ≡ file_at image name) → pushed ≡ items ++ Put name was ∷ [] → IsRun (reverse items) (picture image said) → IsRun (reverse pushed) (picture new said)
  put_runs name file was set is runs =
      subst (λ (l : List Event). IsRun l (picture new said)) (sym (reverse-push items pushed (Put name was) is)) (subst (λ (p : Picture). IsRun (reverse items) p) (sym (put_undone name file was set)) runs)

  -- the same of a removal that a crash cut
  cut_undone : (name : List ℕ) (was : Vec ℕ Global) → new ≡ without_file image name → Some was.items ≡ file_at image name → before (CutRemove name was) (picture new said) ≡ picture image said
  cut_undone name was set is =
      let same : with_file new name was.items ≡ image = ap (λ i. with_file i name was.items) set ∙ set_file-set_file image name None (Some was.items) ∙ set_file-own image name (Some was.items) (sym is) in
      ap (λ i. picture i said) same

  pub cut_adds : (name : List ℕ) (was : Vec ℕ Global) → new ≡ without_file image name → Some was.items ≡ file_at image name → pushed ≡ items ++ CutRemove name was ∷ [] → CutsRemove name (known_of image said items) (known_of new said pushed)
  cut_adds name was set there is = inl (record { was = was; adds = record { past = reverse-push items pushed (CutRemove name was) is; undone = cut_undone name was set there }; image = set; said = refl })

  pub cut_runs : (name : List ℕ) (was : Vec ℕ Global) → new ≡ without_file image name → Some was.items ≡ file_at image name → pushed ≡ items ++ CutRemove name was ∷ [] → IsRun (reverse items) (picture image said) → IsRun (reverse pushed) (picture new said)
  cut_runs name was set there is runs =
      let both : (file_at new name ≡ None) × IsRun (reverse items) (before (CutRemove name was) (picture new said)) =
      (ap (λ i. file_at i name) set ∙ file_at-set_file_same image name None, subst (λ (p : Picture). IsRun (reverse items) p) (sym (cut_undone name was set there)) runs) in
      subst (λ (l : List Event). IsRun l (picture new said)) (sym (reverse-push items pushed (CutRemove name was) is)) both

  module _ (w : Written) (n : ℕ) (bytes : List ℕ) (there : Reaches image w.name w.at) (keeps : KeepsOld w.name w.at w.count n there.file w)
      (set : new ≡ set_file image w.name (option_map (λ f. overlaid f w.at (take n bytes)) (file_at image w.name))) (front : n ≤ length bytes) where
    landed : List ℕ
    landed = take n bytes

    after : set_file image w.name (option_map (λ f. overlaid f w.at (take n bytes)) (file_at image w.name)) ≡ set_file image w.name (Some (overlaid there.file w.at (take n bytes)))
    after = ap (λ o. set_file image w.name (option_map (λ f. overlaid f w.at (take n bytes)) o)) there.is

    same_name : file_at new w.name ≡ Some (overlaid there.file w.at (take n bytes))
    same_name = ap (λ i. file_at i w.name) (set ∙ after) ∙ file_at-set_file_same image w.name (Some (overlaid there.file w.at (take n bytes)))

    size : length (take n bytes) ≡ n
    size = omega (arith, length-take n bytes, front)

    back : taken_back w (overlaid there.file w.at (take n bytes)) ≡ there.file
    back = ap (λ (l : List ℕ). take w.length (overlaid (overlaid there.file w.at (take n bytes)) w.at l)) (keeps.overwritten ∙ ap (λ (k : ℕ). take k (drop w.at there.file)) (sym size))
        ∙ ap (λ (k : ℕ). take k (overlaid (overlaid there.file w.at (take n bytes)) w.at (take (length (take n bytes)) (drop w.at there.file)))) keeps.length_is
        ∙ restored there.file (take n bytes) w.at there.within

    pub write_undone : before (Write w) (picture new said) ≡ picture image said
    write_undone =
        let file_back : option_map (taken_back w) (file_at new w.name) ≡ Some there.file = ap (λ o. option_map (taken_back w) o) same_name ∙ ap (λ (l : List ℕ). Some l) back in
        let same : set_file new w.name (option_map (taken_back w) (file_at new w.name)) ≡ image =
        ap (λ o. set_file new w.name o) file_back ∙ ap (λ i. set_file i w.name (Some there.file)) (set ∙ after) ∙ set_file-set_file image w.name (Some (overlaid there.file w.at (take n bytes))) (Some there.file) ∙ set_file-own image w.name (Some there.file) there.is in
        ap (λ i. picture i said) same

    changes : (step : List ℕ → List ℕ → Type 0) → step there.file (overlaid there.file w.at (take n bytes)) → ChangesFile w.name (OnBytes step) image new
    changes step here = record { after = Some (overlaid there.file w.at (take n bytes)); steps = record { before = there.file; after = overlaid there.file w.at (take n bytes); was = there.is; is = refl; steps = here }; is = set ∙ after }

    pub write_adds : pushed ≡ items ++ Write w ∷ [] → AddsWrite w.name w.at w.count (take n bytes) (known_of image said items) (known_of new said pushed)
    write_adds is = record {
      w = w;
      name_is = refl;
      at_is = refl;
      count_is = refl;
      adds = record { past = reverse-push items pushed (Write w) is; undone = write_undone };
      image = changes (Puts w.at (take n bytes)) (record { within = there.within; is = refl });
      said = refl;
    }

    pub write_runs : n ≤ w.count → pushed ≡ items ++ Write w ∷ [] → IsRun (reverse items) (picture image said) → IsRun (reverse pushed) (picture new said)
    write_runs within is runs =
        let one : Wrote w (picture image said) (picture new said) = record {
          there = there;
          torn = record { said = refl; steps = changes (Torn w.at w.count) (torn_wider w.at (length (take n bytes)) w.count there.file (overlaid there.file w.at (take n bytes)) (omega (arith, size, within)) (torn-overlaid there.file w.at (take n bytes) there.within)) };
        } in
        let both : Wrote w (before (Write w) (picture new said)) (picture new said) × IsRun (reverse items) (before (Write w) (picture new said)) =
        subst (λ (p : Picture). Wrote w p (picture new said) × IsRun (reverse items) p) (sym write_undone) (one, runs) in
        subst (λ (l : List Event). IsRun l (picture new said)) (sym (reverse-push items pushed (Write w) is)) both

-- the same, said of the arguments of the call
module _ (image new : Image) (said : List ℕ) (items pushed : List Event) (w : Written) (n : ℕ) (bytes name : List ℕ) (at : ℕ) (there : Reaches image name at)
    (keeps : (file : List ℕ) → file_at image name ≡ Some file → KeepsOld name at (length bytes) n file w)
    (set : new ≡ set_file image name (option_map (λ f. overlaid f at (take n bytes)) (file_at image name))) (front : n ≤ length bytes) where
  known : KeepsOld name at (length bytes) n there.file w
  known = keeps there.file there.is

  abbrev there_again : Reaches image w.name w.at
  there_again = record {
    file = there.file;
    is = subst (λ q. file_at image q ≡ Some there.file) (sym known.name_is) there.is;
    within = subst (λ k. k ≤ length there.file) (sym known.at_is) there.within;
  }

  known_again : KeepsOld w.name w.at w.count n there.file w
  known_again = record { name_is = refl; at_is = refl; count_is = refl; overwritten = known.overwritten ∙ ap (λ (k : ℕ). take n (drop k there.file)) (sym known.at_is); length_is = known.length_is }

  set_again : new ≡ set_file image w.name (option_map (λ f. overlaid f w.at (take n bytes)) (file_at image w.name))
  set_again =
      subst (λ q. new ≡ set_file image q (option_map (λ f. overlaid f w.at (take n bytes)) (file_at image q))) (sym known.name_is)
      (subst (λ k. new ≡ set_file image name (option_map (λ f. overlaid f k (take n bytes)) (file_at image name))) (sym known.at_is) set)

  pub wrote_runs : pushed ≡ items ++ Write w ∷ [] → IsRun (reverse items) (picture image said) → IsRun (reverse pushed) (picture new said)
  wrote_runs is runs = write_runs image new said items pushed w n bytes there_again known_again set_again front (omega (arith, front, known.count_is)) is runs

  pub wrote_adds : pushed ≡ items ++ Write w ∷ [] → AddsWrite name at (length bytes) (take n bytes) (known_of image said items) (known_of new said pushed)
  wrote_adds is =
      let one : AddsWrite w.name w.at w.count (take n bytes) (known_of image said items) (known_of new said pushed) = write_adds image new said items pushed w n bytes there_again known_again set_again front is in
      subst (λ q. AddsWrite q at (length bytes) (take n bytes) (known_of image said items) (known_of new said pushed)) known.name_is
      (subst (λ k. AddsWrite w.name k (length bytes) (take n bytes) (known_of image said items) (known_of new said pushed)) known.at_is
      (subst (λ k. AddsWrite w.name w.at k (take n bytes) (known_of image said items) (known_of new said pushed)) known.count_is one))
