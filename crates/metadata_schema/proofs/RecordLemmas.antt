-- What is read of columns is the record whose columns they are.
use Rattle.std.proofs.Common.{◌≡◌, ℕ, Bool, true, false, ◌&&◌, ◌||◌, cond, List, [], ◌∷◌, ◌++◌, map, Option, Some, None, IsTrue, refl, sym, ap, ◌∙◌, subst}
use Rattle.std.specs.Prelude.{codes, MatchOption, IfSome}
use Rattle.std.specs.Ordering.{is_lt}
use Rattle.std.specs.List.{list_all, All, filter}
use Rattle.std.specs.Option.{option_map, option_flatten}
use Rattle.std.specs.Fmt.{decimal}
use Rattle.std.proofs.lemmas.Bool.{and_parts, and_from}
use Rattle.std.proofs.lemmas.List.Elements.{All-head, All-tail, All-weaker}
use Rattle.row_keys.specs.RowOrder.{bytes_cmp}
use Rattle.row_keys.specs.MetadataRow.{prev_value}
use Rattle.metadata_schema.specs.declared.mutation.Update.{Update}
use Rattle.metadata_schema.specs.declared.kind.Kind.{Kind}
use Rattle.metadata_schema.specs.declared.kind.Kind.TheVariants.{Chopped, File, Future, Loaded, Loc, Log, Dir, Time, Merged, OldPrev, Prev}
use Rattle.metadata_schema.specs.declared.tablet.FileEntry.{FileEntry}
use Rattle.metadata_schema.specs.declared.tablet.LoadedEntry.{LoadedEntry}
use Rattle.metadata_schema.specs.declared.tablet.TabletRecord.{TabletRecord}
use Rattle.metadata_schema.specs.Bytes.{same, is_rising}
use Rattle.metadata_schema.specs.Values.{bar_value, chopped_value}
use Rattle.metadata_schema.specs.Kinds.{IsQualifier, IsColumn, IsValued}
use Rattle.metadata_schema.specs.Columns.{update_cmp, is_named, update_at, column_at, at_most_one, file_column, loaded_column, log_column, holder_columns, columns_of}
use Rattle.metadata_schema.specs.Records.{IsInOrder}
use Rattle.metadata_schema.specs.Refusals.{AreColumns, of_family}
use Rattle.metadata_schema.proofs.OrderLemmas.{named_is}
use Rattle.metadata_schema.proofs.RisingLemmas.{logs_alike}
use Rattle.metadata_schema.proofs.ReadingLemmas.{HasForm, valued_as}
use Rattle.metadata_schema.proofs.PartsLemmas.{has_any, table, table_in_order, are_joined, one_named}

-- ---- each column is of the table

-- by whether the family and the qualifier are each of those that stand in the table
told : (chopped is_chopped file future loaded loc log srv dir time tab merged old_prev prev : Bool) (P : Kind → Type 0)
    → MatchOption
    (cond chopped (cond is_chopped (Some Chopped) None) (cond file (Some File) (cond future (Some Future) (cond loaded (Some Loaded) (cond loc (Some Loc) (cond log (Some Log)
    (cond srv (cond dir (Some Dir) (cond time (Some Time) None)) (cond tab (cond merged (Some Merged) (cond old_prev (Some OldPrev) (cond prev (Some Prev) None))) None)))))))) ⊥ P
    → ((chopped && is_chopped) || (file || (future || (loaded || (loc || (log || ((srv && dir) || ((srv && time) || ((tab && merged) || ((tab && old_prev) || ((tab && prev) || false))))))))))) ≡ true
told true true file future loaded loc log srv dir time tab merged old_prev prev P is = refl
told true false file future loaded loc log srv dir time tab merged old_prev prev P is = absurd is
told false is_chopped true future loaded loc log srv dir time tab merged old_prev prev P is = refl
told false is_chopped false true loaded loc log srv dir time tab merged old_prev prev P is = refl
told false is_chopped false false true loc log srv dir time tab merged old_prev prev P is = refl
told false is_chopped false false false true log srv dir time tab merged old_prev prev P is = refl
told false is_chopped false false false false true srv dir time tab merged old_prev prev P is = refl
told false is_chopped false false false false false true true time tab merged old_prev prev P is = refl
told false is_chopped false false false false false true false true tab merged old_prev prev P is = refl
told false is_chopped false false false false false true false false tab merged old_prev prev P is = absurd is
told false is_chopped false false false false false false dir time true true old_prev prev P is = refl
told false is_chopped false false false false false false dir time true false true prev P is = refl
told false is_chopped false false false false false false dir time true false false true P is = refl
told false is_chopped false false false false false false dir time true false false false P is = absurd is
told false is_chopped false false false false false false dir time false merged old_prev prev P is = absurd is

in_table : (u : Update) → IsColumn u.family u.qualifier → has_any table u ≡ true
in_table u is =
    let f = u.family in
    let q = u.qualifier in
    told (same f (codes "chopped")) (same q (codes "chopped")) (same f (codes "file")) (same f (codes "future")) (same f (codes "loaded")) (same f (codes "loc")) (same f (codes "log"))
    (same f (codes "srv")) (same q (codes "dir")) (same q (codes "time")) (same f (codes "~tab")) (same q (codes "merged")) (same q (codes "oldprevrow")) (same q (codes "~pr")) (λ kind. IsQualifier kind q) is

-- ---- the record's columns

beside : (xs ys zs ws : List Update) → xs ≡ ys → zs ≡ ws → xs ++ zs ≡ ys ++ ws
beside xs ys zs ws one two = ap (λ (l : List Update). l ++ zs) one ∙ ap (λ (l : List Update). ys ++ l) two

-- each part of a record spells its columns
pub record AreSpelled (us : List Update) (t : TabletRecord) : Type 0 where
  pub chopped : column_at us (codes "chopped") (codes "chopped") ≡ chopped_value t.chopped
  pub files : map file_column t.files ≡ of_family (codes "file") us
  pub future : holder_columns (codes "future") t.future ≡ of_family (codes "future") us
  pub loaded : map loaded_column t.loaded ≡ of_family (codes "loaded") us
  pub loc : holder_columns (codes "loc") t.loc ≡ of_family (codes "loc") us
  pub logs : map log_column t.logs ≡ of_family (codes "log") us
  pub dir : column_at us (codes "srv") (codes "dir") ≡ Some t.dir
  pub time : column_at us (codes "srv") (codes "time") ≡ Some (bar_value t.time)
  pub merged : column_at us (codes "~tab") (codes "merged") ≡ option_map decimal t.merged
  pub old_prev : column_at us (codes "~tab") (codes "oldprevrow") ≡ option_map prev_value t.old_prev
  pub prev : column_at us (codes "~tab") (codes "~pr") ≡ Some (prev_value t.prev)

one_is : (us : List Update) → AreColumns us → (f q : List ℕ) (o : Option (List ℕ)) → column_at us f q ≡ o → filter (is_named f q) us ≡ at_most_one f q o
one_is us given f q o is = one_named f q us given.order given.written ∙ ap (at_most_one f q) is

pub columns_are : (us : List Update) (t : TabletRecord) → AreColumns us → All (λ u. IsColumn u.family u.qualifier) us → AreSpelled us t → us ≡ columns_of t
columns_are us t given named spelled =
    let parts = are_joined table us table_in_order given.order (All-weaker (λ u. IsColumn u.family u.qualifier) (λ u. has_any table u ≡ true) in_table us named) in
    parts
    ∙ beside _ _ _ _ (one_is us given (codes "chopped") (codes "chopped") (chopped_value t.chopped) spelled.chopped)
    (beside _ _ _ _ (sym spelled.files) (beside _ _ _ _ (sym spelled.future) (beside _ _ _ _ (sym spelled.loaded) (beside _ _ _ _ (sym spelled.loc) (beside _ _ _ _ (sym spelled.logs)
    (beside _ _ _ _ (one_is us given (codes "srv") (codes "dir") (Some t.dir) spelled.dir)
    (beside _ _ _ _ (one_is us given (codes "srv") (codes "time") (Some (bar_value t.time)) spelled.time)
    (beside _ _ _ _ (one_is us given (codes "~tab") (codes "merged") (option_map decimal t.merged) spelled.merged)
    (beside _ _ _ _ (one_is us given (codes "~tab") (codes "oldprevrow") (option_map prev_value t.old_prev) spelled.old_prev)
    (ap (λ (l : List Update). l ++ []) (one_is us given (codes "~tab") (codes "~pr") (Some (prev_value t.prev)) spelled.prev)))))))))))

-- ---- the order of its lists

above_filtered : (test : Update → Bool) (u : Update) (us : List Update) → IsTrue (list_all (λ other. is_lt (update_cmp u other)) us) → IsTrue (list_all (λ other. is_lt (update_cmp u other)) (filter test us))
above_filtered test u [] above = refl
above_filtered test u (v ∷ us) above = at (test v) (above_filtered test u us parts.1)
  where
    parts : (is_lt (update_cmp u v) ≡ true) × IsTrue (list_all (λ other. is_lt (update_cmp u other)) us)
    parts = and_parts (is_lt (update_cmp u v)) (list_all (λ other. is_lt (update_cmp u other)) us) above

    at : (b : Bool) → IsTrue (list_all (λ other. is_lt (update_cmp u other)) (filter test us)) → IsTrue (list_all (λ other. is_lt (update_cmp u other)) (cond b (v ∷ filter test us) (filter test us)))
    at true rest = and_from (is_lt (update_cmp u v)) (list_all (λ other. is_lt (update_cmp u other)) (filter test us)) parts.0 rest
    at false rest = rest

rising_filtered : (test : Update → Bool) (us : List Update) → IsTrue (is_rising update_cmp us) → IsTrue (is_rising update_cmp (filter test us))
rising_filtered test [] rising = refl
rising_filtered test (u ∷ us) rising = at (test u) (rising_filtered test us parts.1)
  where
    parts : IsTrue (list_all (λ other. is_lt (update_cmp u other)) us) × IsTrue (is_rising update_cmp us)
    parts = and_parts (list_all (λ other. is_lt (update_cmp u other)) us) (is_rising update_cmp us) rising

    at : (b : Bool) → IsTrue (is_rising update_cmp (filter test us)) → IsTrue (is_rising update_cmp (cond b (u ∷ filter test us) (filter test us)))
    at true rest = and_from (list_all (λ other. is_lt (update_cmp u other)) (filter test us)) (is_rising update_cmp (filter test us)) (above_filtered test u us parts.0) rest
    at false rest = rest

keys_above : {X : Type 0} (column : X → Update) (key : X → List ℕ) (alike : (x y : X) → update_cmp (column x) (column y) ≡ bytes_cmp (key x) (key y)) (x : X) (xs : List X)
    → IsTrue (list_all (λ other. is_lt (update_cmp (column x) other)) (map column xs)) → IsTrue (list_all (λ other. is_lt (bytes_cmp (key x) other)) (map key xs))
keys_above column key alike x [] above = refl
keys_above column key alike x (y ∷ ys) above =
    let parts = and_parts (is_lt (update_cmp (column x) (column y))) (list_all (λ other. is_lt (update_cmp (column x) other)) (map column ys)) above in
    and_from (is_lt (bytes_cmp (key x) (key y))) (list_all (λ other. is_lt (bytes_cmp (key x) other)) (map key ys))
    (ap is_lt (sym (alike x y)) ∙ parts.0) (keys_above column key alike x ys parts.1)

keys_rise : {X : Type 0} (column : X → Update) (key : X → List ℕ) (alike : (x y : X) → update_cmp (column x) (column y) ≡ bytes_cmp (key x) (key y)) (xs : List X)
    → IsTrue (is_rising update_cmp (map column xs)) → IsTrue (is_rising bytes_cmp (map key xs))
keys_rise column key alike [] rising = refl
keys_rise column key alike (x ∷ xs) rising =
    let parts = and_parts (list_all (λ other. is_lt (update_cmp (column x) other)) (map column xs)) (is_rising update_cmp (map column xs)) rising in
    and_from (list_all (λ other. is_lt (bytes_cmp (key x) other)) (map key xs)) (is_rising bytes_cmp (map key xs)) (keys_above column key alike x xs parts.0) (keys_rise column key alike xs parts.1)

family_rises : (f : List ℕ) (us columns : List Update) → IsTrue (is_rising update_cmp us) → columns ≡ of_family f us → IsTrue (is_rising update_cmp columns)
family_rises f us columns rising is = subst (λ (l : List Update). IsTrue (is_rising update_cmp l)) (sym is) (rising_filtered (λ update. same update.family f) us rising)

pub lists_in_order : (us : List Update) (t : TabletRecord) → AreColumns us → AreSpelled us t → IsInOrder t
lists_in_order us t given spelled = record {
  files = keys_rise file_column (λ (file : FileEntry). file.path) (λ x y. refl) t.files (family_rises (codes "file") us (map file_column t.files) given.order spelled.files);
  logs =
      subst (λ (l : List (List ℕ)). IsTrue (is_rising bytes_cmp l)) (logs_alike t.logs)
      (keys_rise log_column (λ (log : List ℕ). log) (λ x y. refl) t.logs (family_rises (codes "log") us (map log_column t.logs) given.order spelled.logs));
  loaded = keys_rise loaded_column (λ (entry : LoadedEntry). entry.path) (λ x y. refl) t.loaded (family_rises (codes "loaded") us (map loaded_column t.loaded) given.order spelled.loaded);
}

-- ---- the value of a column of one name

pub form_at : (us : List Update) (f q value : List ℕ) → All IsValued us → column_at us f q ≡ Some value → HasForm f q value
form_at [] f q value valued is = absurd cc
form_at (u ∷ us) f q value valued is = at (is_named f q u) refl (form_at us f q value (All-tail IsValued u us valued))
  where
    at : (b : Bool) → is_named f q u ≡ b → (column_at us f q ≡ Some value → HasForm f q value) → HasForm f q value
    at true named rest =
        let names = named_is f q u named in
        let here : u.value ≡ Some value = sym (ap (λ (b : Bool). option_flatten (cond b (Some u.value) (update_at us f q))) named) ∙ is in
        subst (λ (l : List ℕ). HasForm f l value) names.1 (valued_as u f value names.0 here (All-head IsValued u us valued))
    at false other rest =
        rest (sym (ap (λ (b : Bool). option_flatten (cond b (Some u.value) (update_at us f q))) other) ∙ is)

pub if_form_at : (us : List Update) (f q : List ℕ) (o : Option (List ℕ)) → All IsValued us → o ≡ column_at us f q → IfSome o (HasForm f q)
if_form_at us f q None valued is = tt
if_form_at us f q (Some value) valued is = form_at us f q value valued (sym is)
