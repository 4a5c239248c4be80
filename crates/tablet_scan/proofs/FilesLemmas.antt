-- Files that are read one after another.
use Rattle.std.proofs.Common.{◌≡◌, inl, inr, ℕ, zero, suc, ◌+◌, ◌<◌, List, [], ◌∷◌, ◌++◌, map, length, take, drop, set, get_or, Contains, Some, None, IsTrue, refl, sym, ◌∙◌, ap, subst, arith, append_assoc, append-nil, add-one, drop-cons}
use Rattle.std.proofs.lemmas.List.{take_more, take-append-drop}
use Rattle.std.proofs.lemmas.Option.{same_Some}
use Rattle.host_model.specs.Picture.{Image}
use Rattle.host_model.specs.State.{HostState}
use Rattle.host_model.specs.Calls.{Keeps}
use Rattle.host_model.specs.declared.fault.Stop.{Stop}
use Rattle.host_model.specs.declared.fault.Stop.TheVariants.{Host, Damaged, Full, NoMemory}
use Rattle.host_model.proofs.CallsLemmas.{faulted-then, still_faithful}
use Rattle.metadata_schema.specs.declared.tablet.FileEntry.{FileEntry}
use Rattle.cell_merge.specs.declared.cell.Cell.{Cell}
use Rattle.cell_merge.proofs.Membership.{Contains-nil, Contains-cons_cases}
use Rattle.data_files.specs.Files.{IsDamaged, ReadCause}
use Rattle.data_files.proofs.FileLemmas.{one_list}
use Rattle.store_layout.specs.Names.{file_of}
use Rattle.store_meaning.specs.Ground.{Ground, IsGroundOf}
use Rattle.store_meaning.specs.Content.{all_told, file_cells, timed}
use Rattle.store_meaning.proofs.AgreeLemmas.{one_file}
use Rattle.store_meaning.proofs.ContentLemmas.{mapped}
use Rattle.store_meaning.proofs.MemberLemmas.{both_parts}
use Rattle.ground_store.specs.Value.{GroundValue}
use Rattle.ground_store.specs.Acts.{Acts}
use Rattle.ground_store.specs.Steps.{Stays}
use Rattle.tablet_scan.proofs.BehindLemmas.{alive_of}
use Rattle.tablet_scan.specs.Files.{HoldsTimed, HoldAll, IsBad, IsFirstBad, IsNameOf, FilesCause}

-- one element more is mapped in its place
set_mapped : {X : Type 0} (f : X → X) (xs : List X) (i : ℕ) (x y : X) → i < length xs → x ≡ get_or (map f (take i xs) ++ drop i xs) i x → y ≡ f x → set (map f (take i xs) ++ drop i xs) i y ≡ map f (take (suc i) xs) ++ drop (suc i) xs
set_mapped f [] i x y lt at is = absurd (omega arith)
set_mapped f (z ∷ zs) zero x y lt at is = ap (λ w. w ∷ zs) (is ∙ ap f at)
set_mapped f (z ∷ zs) (suc i) x y lt at is = ap (λ w. f z ∷ w) (set_mapped f zs i x y (omega arith) at is)

-- the same, where the elements so far are known by an equation
pub set_next : {X : Type 0} (f : X → X) (xs cur : List X) (i : ℕ) (x y : X) → i < length xs → cur ≡ map f (take i xs) ++ drop i xs → x ≡ get_or cur i x → y ≡ f x → set cur i y ≡ map f (take (i + 1) xs) ++ drop (i + 1) xs
set_next f xs cur i x y lt so_far at is =
    ap (λ l. set l i y) so_far
    ∙ set_mapped f xs i x y lt (at ∙ ap (λ l. get_or l i x) so_far) is
    ∙ ap (λ n. map f (take n xs) ++ drop n xs) (sym (add-one i))

hold_push : (image : Image) (xs : List FileEntry) (x : FileEntry) (ys zs : List Cell) → HoldAll image xs ys → HoldsTimed image x zs → HoldAll image (xs ++ x ∷ []) (ys ++ zs)
hold_push image [] x ys zs none one = (zs, [], one, refl, ap (λ l. l ++ zs) none ∙ sym (append-nil zs))
hold_push image (w ∷ xs) x ys zs all one = (all.0, all.1 ++ zs, all.2, hold_push image xs x all.1 zs all.3 one, ap (λ l. l ++ zs) all.4 ∙ append_assoc all.0 all.1 zs)

module _ (image : Image) (files : List FileEntry) (i : ℕ) (x : FileEntry) (lt : i < length files) (at : x ≡ get_or files i x) where
  pub next_take : take (i + 1) files ≡ take i files ++ x ∷ []
  next_take = take_more files i x lt ∙ ap (λ y. take i files ++ y ∷ []) (sym at)

  -- one file more is held
  pub hold_more : (ys zs : List Cell) → HoldAll image (take i files) ys → HoldsTimed image x zs → HoldAll image (take (i + 1) files) (ys ++ zs)
  hold_more ys zs all one = subst (λ l. HoldAll image l (ys ++ zs)) (sym next_take) (hold_push image (take i files) x ys zs all one)

  pub parted : files ≡ take i files ++ x ∷ drop (suc i) files
  parted = sym (take-append-drop i files) ∙ ap (λ l. take i files ++ l) (drop-cons files i x lt ∙ ap (λ y. y ∷ drop (suc i) files) (sym at))

  -- the first that is bad
  pub first_bad : (ys : List Cell) → HoldAll image (take i files) ys → IsBad image x → IsFirstBad image files (file_of x.path)
  first_bad ys all bad = record { front = take i files; file = x; back = drop (suc i) files; are = parted; cells = ys; before = all; bad = bad; named = refl }

  pub name_of : IsNameOf files (file_of x.path)
  name_of = (x, (i, lt, sym at), refl)

-- what holds of the files behind calls that only looked held before them
pub seen_before : {H : Type 0} (state : H → HostState) {a b : GroundValue H} (P : Image → Type 0) → Acts state Stays Stays None a b → IsTrue (state a.host).is_faithful → (IsTrue (state b.host).is_faithful → P (state b.host).files) → P (state a.host).files
seen_before state P looked f seen =
    let went = looked.goes (alive_of state looked) in
    subst P (went.tried f) (seen (still_faithful went.quiet.keeps f))

-- why reading one of the files stopped is why reading them all stopped, where it is the first that is bad if it is bad
pub stop_of_file : (files : List FileEntry) (x : FileEntry) (stop : Stop) (a b c : HostState) → Keeps a b → (IsTrue a.is_faithful → b.files ≡ a.files) → IsNameOf files (file_of x.path) → (IsTrue a.is_faithful → IsBad a.files x → IsFirstBad a.files files (file_of x.path))
    → ReadCause (file_of x.path) stop b c → FilesCause files stop a c
stop_of_file files x (Host fault) a b c keeps same named first cause = (cause.0, faulted-then keeps cause.1)
stop_of_file files x (Damaged name) a b c keeps same named first cause = (
  subst (IsNameOf files) (sym cause.0) named,
  λ f. subst (IsFirstBad a.files files) (sym cause.0) (first f (subst (IsDamaged (file_of x.path)) (same f) (cause.1 (still_faithful keeps f)))),
)
stop_of_file files x Full a b c keeps same named first cause = cause
stop_of_file files x NoMemory a b c keeps same named first cause = tt

pub stop_at : (files : List FileEntry) (i : ℕ) (x : FileEntry) → i < length files → x ≡ get_or files i x → (ys : List Cell) (stop : Stop) (a b c : HostState) → Keeps a b → (IsTrue a.is_faithful → b.files ≡ a.files) → (IsTrue a.is_faithful → HoldAll a.files (take i files) ys)
    → ReadCause (file_of x.path) stop b c → FilesCause files stop a c
stop_at files i x lt at ys stop a b c keeps same all cause = stop_of_file files x stop a b c keeps same (name_of a.files files i x lt at) (λ f bad. first_bad a.files files i x lt at ys (all f) bad) cause

-- none is bad where all are held
pub none_bad : (image : Image) (files : List FileEntry) (cells : List Cell) → HoldAll image files cells → (file : FileEntry) → Contains files file → IsBad image file → ⊥
none_bad image [] cells all file there bad = Contains-nil file there
none_bad image (x ∷ xs) cells all file there bad = elim (Contains-cons_cases x file xs there) [
  | inl is ↦ (let damaged = subst (IsBad image) (sym is) bad in damaged.none all.2.stored all.2.holds)
  | inr rest ↦ none_bad image xs all.1 all.3 file rest bad
]

-- what a ground of the image tells of the files is what they hold
pub told_is : (image : Image) (known : Ground) → IsGroundOf image known → (files : List FileEntry) (cells told : List Cell) → HoldAll image files cells → all_told (file_cells known) files ≡ Some told → cells ≡ told
told_is image known ground [] cells told none e = none ∙ same_Some [] told e
told_is image known ground (file ∷ more) cells told all e =
    let parts = both_parts (file_cells known file) (all_told (file_cells known) more) told e in
    let own = mapped (map (timed file.time)) (known.cells_of file.path) parts.0 parts.2 in
    let one : all.2.stored ≡ own.0 = one_file one_list (file_of file.path) image all.2.stored own.0 all.2.holds (ground.cells file.path own.0 own.1).holds in
    let front : all.0 ≡ parts.0 = all.2.are ∙ ap (map (timed file.time)) one ∙ own.2 in
    let back : all.1 ≡ parts.1 = told_is image known ground more all.1 parts.1 all.3 parts.3 in
    all.4 ∙ (λ i. front i ++ back i) ∙ sym parts.4
