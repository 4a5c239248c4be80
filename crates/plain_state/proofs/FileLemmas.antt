-- Staged files that are put into a state one after another.
use Rattle.std.proofs.Common.{◌≡◌, ◌≢◌, inl, inr, ℕ, Bool, true, false, cond, List, [], ◌∷◌, ◌++◌, Contains, map as mapped, Option, Some, None, Result, Ok, Err, is_some, refl, sym, ◌∙◌, ap, subst}
use Rattle.std.specs.Prelude.{find}
use Rattle.std.specs.FinMap as map
use Rattle.std.specs.FinMap.{get-insert}
use Rattle.std.specs.Option.{option_map}
use Rattle.std.specs.Ordering.{eq_by_cmp, is_eq}
use Rattle.std.proofs.lemmas.Cmp.{tied_itself}
use Rattle.std.proofs.lemmas.Bool.{false≢true, cases_Bool}
use Rattle.std.proofs.lemmas.Option.{none-some, same_Some}
use Rattle.row_keys.specs.declared.key.Key.{Key}
use Rattle.row_keys.specs.Keys.{key_cmp}
use Rattle.row_keys.specs.RowOrder.{bytes_cmp}
use Rattle.metadata_schema.specs.Bytes.{same}
use Rattle.plain_model.specs.declared.operation.Op.TheVariants.{Stage}
use Rattle.plain_model.specs.declared.operation.Pair.{Pair}
use Rattle.plain_model.specs.declared.stop.PlainStop.{PlainStop}
use Rattle.plain_model.specs.declared.stop.PlainStop.TheVariants.{Exists}
use Rattle.plain_model.specs.State.{PairMap, PlainState}
use Rattle.plain_model.specs.Apply.{apply, put_all, entries_of}
use Rattle.plain_model.specs.Applies.{Applies}
use Rattle.plain_model.proofs.InOrder.{equal}
use Rattle.plain_model.proofs.LawsLemmas.{if_ok, no_Ok, same_Ok, get_own, get_other}
use Rattle.cell_merge.specs.declared.cell.Cell.{Cell}
use Rattle.cell_merge.specs.declared.cell.Pair.{Pair as CellPair}
use Rattle.cell_merge.specs.Newest.{newest_at, IsNewest}
use Rattle.cell_merge.proofs.KeyLemmas.{key_cmp_total, key_cmp-equal}
use Rattle.level_rows.proofs.EndLemmas.{same-true, same-refl, same-itself}
use Rattle.level_rows.proofs.Membership.{Contains-nil, Contains-here, Contains-there, Contains-cons_cases}
use Rattle.store_meaning.specs.Ground.{Ground}
use Rattle.store_meaning.specs.Stands.{StagedAt, IsStagedOf}
use Rattle.plain_state.specs.Catalogs.{file_of, path_of}
use Rattle.plain_state.specs.Pairs.{plain_pair, ArePairsOf, Stages}
use Rattle.plain_state.specs.States.{AreStagedIn}
use Rattle.plain_state.proofs.ListLemmas.{none_unless, found_behind, found_still}

-- ---- the pairs of a file

-- these pairs put over others
abbrev put_pairs : List CellPair → PairMap → PairMap
put_pairs pairs over = put_all (entries_of (mapped plain_pair pairs)) over

same_keys : (one other : Key) → one ≡ other → eq_by_cmp key_cmp one other ≡ true
same_keys one other is = ap (eq_by_cmp key_cmp one) (sym is) ∙ ap is_eq (tied_itself key_cmp_total one)

got : (over : PairMap) (key at : Key) (value : List ℕ) → map.get (map.insert over at value) key ≡ cond (eq_by_cmp key_cmp key at) (Some value) (map.get over key)
got over key at value = get-insert key_cmp_total over at value key

-- a key that has the value, and no pair with another one
put_still : (pairs : List CellPair) (over : PairMap) (key : Key) (value : List ℕ) → ((pair : CellPair) → Contains pairs pair → pair.key ≡ key → pair.value ≡ value) → map.get over key ≡ Some value → map.get (put_pairs pairs over) key ≡ Some value
put_still [] over key value alike there = there
put_still (pair ∷ pairs) over key value alike there =
    put_still pairs (map.insert over pair.key pair.value) key value (λ p among. alike p (Contains-there pair p pairs among)) (got over key pair.key pair.value ∙ by (eq_by_cmp key_cmp key pair.key) refl)
  where
    by : (b : Bool) → eq_by_cmp key_cmp key pair.key ≡ b → cond b (Some pair.value) (map.get over key) ≡ Some value
    by true e = ap Some (alike pair (Contains-here pair pairs) (sym (key_cmp-equal key pair.key (equal (key_cmp key pair.key) e))))
    by false e = there

-- a pair that is among them
put_there : (pairs : List CellPair) (over : PairMap) (one : CellPair) → ((pair : CellPair) → Contains pairs pair → pair.key ≡ one.key → pair.value ≡ one.value) → Contains pairs one → map.get (put_pairs pairs over) one.key ≡ Some one.value
put_there [] over one alike among = absurd (Contains-nil one among)
put_there (pair ∷ pairs) over one alike among =
    let others : (p : CellPair) → Contains pairs p → p.key ≡ one.key → p.value ≡ one.value = λ p in_rest. alike p (Contains-there pair p pairs in_rest) in
    elim (Contains-cons_cases pair one pairs among) [
      | inl is ↦ put_still pairs (map.insert over pair.key pair.value) one.key one.value others
          (got over one.key pair.key pair.value ∙ here (ap (λ (p : CellPair). p.key) is) (ap (λ (p : CellPair). p.value) is))
      | inr rest ↦ put_there pairs (map.insert over pair.key pair.value) one others rest
    ]
  where
    here : pair.key ≡ one.key → pair.value ≡ one.value → cond (eq_by_cmp key_cmp one.key pair.key) (Some pair.value) (map.get over one.key) ≡ Some one.value
    here keys values = ap (λ b. cond b (Some pair.value) (map.get over one.key)) (same_keys one.key pair.key (sym keys)) ∙ ap Some values

-- a key without a pair
put_apart : (pairs : List CellPair) (over : PairMap) (key : Key) → ((pair : CellPair) → Contains pairs pair → pair.key ≡ key → ⊥) → map.get (put_pairs pairs over) key ≡ map.get over key
put_apart [] over key none = refl
put_apart (pair ∷ pairs) over key none =
    put_apart pairs (map.insert over pair.key pair.value) key (λ p among. none p (Contains-there pair p pairs among)) ∙ got over key pair.key pair.value ∙ by (eq_by_cmp key_cmp key pair.key) refl
  where
    by : (b : Bool) → eq_by_cmp key_cmp key pair.key ≡ b → cond b (Some pair.value) (map.get over key) ≡ map.get over key
    by true e = absurd (none pair (Contains-here pair pairs) (sym (key_cmp-equal key pair.key (equal (key_cmp key pair.key) e))))
    by false e = refl

-- what a file of the newest pairs has at a key
pairs_put : (cells : List Cell) (newest : List CellPair) (key : Key) → IsNewest cells newest → map.get (put_pairs newest map.empty) key ≡ newest_at cells key
pairs_put cells newest key is = by (newest_at cells key) refl
  where
    by : (o : Option (List ℕ)) → newest_at cells key ≡ o → map.get (put_pairs newest map.empty) key ≡ o
    by None e =
        put_apart newest map.empty key (λ pair among keys. none-some pair.value (sym e ∙ ap (newest_at cells) (sym keys) ∙ (is.each pair).0 among)) ∙ map.get-empty key_cmp key
    by (Some value) e =
        let one : CellPair = record { key = key; value = value } in
        put_there newest map.empty one (λ pair among keys. same_Some pair.value value (sym ((is.each pair).0 among) ∙ ap (newest_at cells) keys ∙ e)) ((is.each one).1 e)

-- ---- one file

-- what comes of an operation that is done
done_so : (outcome : Result PlainState PlainStop) (old new : PlainState) (done : Unit {0}) → Applies outcome old (Ok done) new → outcome ≡ Ok new
done_so (Ok next) old new done is = ap Ok (sym is)
done_so (Err refusal) old new done is = no_Ok refusal done (sym is.0)

pub staged_file : (name : List ℕ) (cells : List Cell) (pairs : List Pair) (old new : PlainState) (done : Unit {0}) → ArePairsOf cells pairs → Applies (apply (Stage name pairs) old) old (Ok done) new → Stages name cells old new
staged_file name cells pairs old new done are applies =
    let file : PairMap = put_all (entries_of pairs) map.empty in
    let made = if_ok (map.contains_key old.staged name) Exists (Ok (record old { staged = map.insert old.staged name file })) new (done_so (apply (Stage name pairs) old) old new done applies) in
    let is : record old { staged = map.insert old.staged name file } ≡ new = same_Ok (record old { staged = map.insert old.staged name file }) new made.1 in
    record {
      file = file;
      none = none_unless (map.get old.staged name) (λ there e. false≢true (sym made.0 ∙ ap is_some e));
      is = ap (λ (s : PlainState). s.staged) (sym is);
      pairs = λ key. ap (λ (l : List Pair). map.get (put_all (entries_of l) map.empty) key) are.are ∙ pairs_put cells are.newest key are.is;
      tables = ap (λ (s : PlainState). s.tables) (sym is);
    }

-- ---- file after file

differ : (one other : List ℕ) → one ≢ other → same one other ≡ false
differ one other apart = elim (cases_Bool (same one other)) [ inl is ↦ absurd (apart (same-true one other is)) | inr is ↦ is ]

pub files_none : (known : Ground) (state : PlainState) → state.staged ≡ map.empty → AreStagedIn known [] state state
files_none known state e = record { each = λ name. ap (λ s. map.get s name) e ∙ map.get-empty bytes_cmp name; tables = refl }

module _ (known : Ground) (files : List (List ℕ × List ℕ)) (name path : List ℕ) (cells : List Cell) (old state new : PlainState) (are : AreStagedIn known files old state) (told : known.cells_of path ≡ Some cells) (stages : Stages name cells state new) where
  -- the name is new
  fresh : file_of files name ≡ None
  fresh = none_unless (file_of files name) (λ file e. (let staged = subst (λ o. StagedAt known (option_map (λ (f : List ℕ × List ℕ). f.1) o) (map.get state.staged name)) e (are.each name) in
      none-some staged.staged (sym stages.none ∙ staged.is)))

  own : StagedAt known (path_of (files ++ (name, path) ∷ []) name) (map.get new.staged name)
  own = subst (λ o. StagedAt known (option_map (λ (f : List ℕ × List ℕ). f.1) o) (map.get new.staged name))
      (sym (found_behind (λ (f : List ℕ × List ℕ). same f.0 name) files ((name, path) ∷ []) fresh ∙ ap (λ b. cond b (Some (name, path)) None) (same-refl name)))
      (record { staged = stages.file; is = ap (λ s. map.get s name) stages.is ∙ get_own state.staged name stages.file; cells = cells; told = told; pairs = stages.pairs })

  kept : (other : List ℕ) → other ≢ name → StagedAt known (path_of (files ++ (name, path) ∷ []) other) (map.get new.staged other)
  kept other apart = subst (λ o. StagedAt known (option_map (λ (f : List ℕ × List ℕ). f.1) o) (map.get new.staged other))
      (sym (found_still (λ (f : List ℕ × List ℕ). same f.0 other) files (name, path) (differ name other (λ is. apart (sym is)))))
      (subst (StagedAt known (path_of files other)) (sym (ap (λ s. map.get s other) stages.is ∙ get_other state.staged name stages.file other apart)) (are.each other))

  pub files_more : AreStagedIn known (files ++ (name, path) ∷ []) old new
  files_more = record {
    each = λ other. (elim (cases_Bool (same other name)) [
      | inl is ↦ subst (λ n. StagedAt known (path_of (files ++ (name, path) ∷ []) n) (map.get new.staged n)) (sym (same-true other name is)) own
      | inr differs ↦ kept other (λ is. false≢true (sym differs ∙ same-itself other name is))
    ]);
    tables = stages.tables ∙ are.tables;
  }
