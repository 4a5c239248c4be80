-- What the state has of tables, of tablets and of marks.
use Rattle.std.proofs.Common.{◌≡◌, inl, inr, ℕ, ◌==◌, ◌&&◌, ◌||◌, not, Bool, true, false, List, [], ◌∷◌, ◌++◌, Contains, Option, Some, None, refl, sym, ◌∙◌, ap, subst, arith}
use Rattle.std.specs.Prelude.{MatchBool}
use Rattle.std.specs.FinMap as map_of
use Rattle.std.specs.List.{list_any, list_all}
use Rattle.std.proofs.lemmas.Bool.{and_parts, and_from}
use Rattle.std.proofs.lemmas.Bool.Decides.{nat_tests}
use Rattle.row_keys.specs.declared.key.Key.{Key}
use Rattle.plain_model.specs.State.{Table, PlainState}
use Rattle.metadata_schema.specs.declared.tablet.LoadedEntry.{LoadedEntry}
use Rattle.metadata_schema.specs.declared.tablet.TabletRecord.{TabletRecord}
use Rattle.metadata_schema.specs.Bytes.{same}
use Rattle.cell_merge.specs.declared.cell.Cell.{Cell}
use Rattle.cell_merge.specs.Newest.{latest, newest_at}
use Rattle.cell_merge.specs.Changes.{overlaid}
use Rattle.level_rows.specs.Chain.{Rows, IsChain}
use Rattle.level_rows.specs.Extents.{holds_row, HasOneFor}
use Rattle.level_rows.proofs.EndLemmas.{same-true, same-refl}
use Rattle.level_rows.proofs.Membership.{Contains-nil, Contains-here, Contains-there, Contains-cons_cases}
use Rattle.store_layout.specs.declared.tables.Mark.TheVariants.{Import}
use Rattle.store_layout.specs.declared.tables.TableNode.{TableNode}
use Rattle.store_layout.specs.declared.tables.TableState.{TableState}
use Rattle.store_layout.specs.declared.tables.TableState.TheVariants.{New, Online, Deleting}
use Rattle.store_layout.specs.Tables.{Catalog}
use Rattle.store_meaning.specs.Ground.{Ground}
use Rattle.store_meaning.specs.Content.{all_told, tablet_content}
use Rattle.store_meaning.specs.Levels.{Reading}
use Rattle.store_meaning.specs.Marked.{mark_paths, has_loaded, is_lacking, whole_layer, layered}
use Rattle.store_meaning.specs.Stands.{is_online, TableStands, IsTableOf, TableAt, StandsAs}
use Rattle.store_meaning.proofs.MarkLemmas.{inside, outside}
use Rattle.store_meaning.proofs.TabletLemmas.{has_what_its_tablet_has}

-- ---- tables

module _ (reading : Reading) (catalog : Catalog) (known : Ground) (state : PlainState) (id : List ℕ) (is : StandsAs reading catalog known state) where
  at : (node : Option TableNode) → catalog.tables id ≡ node → TableAt known (reading.users.records id) node (map_of.get state.tables id)
  at found e = subst (λ n. TableAt known (reading.users.records id) n (map_of.get state.tables id)) e (is.tables id)

  pub online : (node : TableNode) → catalog.tables id ≡ Some node → node.state ≡ Online → IsTableOf known (reading.users.records id) node (map_of.get state.tables id)
  online node there state_is = subst (λ s. MatchBool (is_online s) (IsTableOf known (reading.users.records id) node (map_of.get state.tables id)) (map_of.get state.tables id ≡ None)) state_is (at (Some node) there)

  pub others : (node : TableNode) → catalog.tables id ≡ Some node → (node.state ≡ Online → ⊥) → map_of.get state.tables id ≡ None
  others node there apart = by node.state apart (at (Some node) there)
    where
      by : (s : TableState) → (s ≡ Online → ⊥) → MatchBool (is_online s) (IsTableOf known (reading.users.records id) node (map_of.get state.tables id)) (map_of.get state.tables id ≡ None) → map_of.get state.tables id ≡ None
      by New differs none = none
      by Online differs one = absurd (differs refl)
      by Deleting differs none = none

  pub none : catalog.tables id ≡ None → map_of.get state.tables id ≡ None
  none there = at None there

-- ---- marks

all_from : {X : Type 0} (p : X → Bool) (xs : List X) → ((x : X) → Contains xs x → p x ≡ true) → list_all p xs ≡ true
all_from p [] each = refl
all_from p (x ∷ xs) each = and_from (p x) (list_all p xs) (each x (Contains-here x xs)) (all_from p xs (λ y there. each y (Contains-there x y xs there)))

all_each : {X : Type 0} (p : X → Bool) (xs : List X) (x : X) → list_all p xs ≡ true → Contains xs x → p x ≡ true
all_each p [] x all there = absurd (Contains-nil x there)
all_each p (y ∷ ys) x all there =
    let parts = and_parts (p y) (list_all p ys) all in
    elim (Contains-cons_cases y x ys there) [ inl is ↦ ap p (sym is) ∙ parts.0 | inr rest ↦ all_each p ys x parts.1 rest ]

any_from : {X : Type 0} (p : X → Bool) (xs : List X) (x : X) → Contains xs x → p x ≡ true → list_any p xs ≡ true
any_from p [] x there pass = absurd (Contains-nil x there)
any_from p (y ∷ ys) x there pass = elim (Contains-cons_cases y x ys there) [
  | inl is ↦ ap (λ b. b || list_any p ys) (ap p is ∙ pass)
  | inr rest ↦ ap (λ b. p y || b) (any_from p ys x rest pass) ∙ or_true (p y)
]
  where
    or_true : (b : Bool) → b || true ≡ true
    or_true true = refl
    or_true false = refl

any_some : {X : Type 0} (p : X → Bool) (xs : List X) → list_any p xs ≡ true → (x : X) × Contains xs x × (p x ≡ true)
any_some p [] any = absurd (let wrong : false ≡ true = any in cc)
any_some p (y ∷ ys) any = by (p y) refl any (any_some p ys)
  where
    by : (b : Bool) → p y ≡ b → b || list_any p ys ≡ true → (list_any p ys ≡ true → (x : _) × Contains ys x × (p x ≡ true)) → (x : _) × Contains (y ∷ ys) x × (p x ≡ true)
    by true e any more = (y, Contains-here y ys, e)
    by false e any more = (let rest = more any in (rest.0, Contains-there y rest.0 ys rest.1, rest.2))

module _ (tid : ℕ) (tablet : TabletRecord) where
  abbrev entry_of : List ℕ → LoadedEntry
  entry_of path = record { path = path; tid = tid }

  number_is : (n : ℕ) → (n == tid) ≡ true → n ≡ tid
  number_is n is = grind (arith, nat_tests)

  itself : (n : ℕ) → (n == n) ≡ true
  itself n = grind (arith, nat_tests)

  has_from : (path : List ℕ) → Contains tablet.loaded (entry_of path) → has_loaded tid tablet path ≡ true
  has_from path there = any_from (λ (e : LoadedEntry). same e.path path && e.tid == tid) tablet.loaded (entry_of path) there (and_from (same path path) (tid == tid) (same-refl path) (itself tid))

  has_some : (path : List ℕ) → has_loaded tid tablet path ≡ true → Contains tablet.loaded (entry_of path)
  has_some path has =
      let found = any_some (λ (e : LoadedEntry). same e.path path && e.tid == tid) tablet.loaded has in
      let parts = and_parts (same found.0.path path) (found.0.tid == tid) found.2 in
      let paths = same-true found.0.path path parts.0 in
      let tids = number_is found.0.tid parts.1 in
      let entry : found.0 ≡ entry_of path = λ i. record { path = paths i; tid = tids i } in
      subst (Contains tablet.loaded) entry found.1

  turned : (b : Bool) → not b ≡ false → b ≡ true
  turned true e = refl
  turned false e = cc

  pub loaded : (paths : List (List ℕ)) → ((path : List ℕ) → Contains paths path → Contains tablet.loaded (entry_of path)) → is_lacking (Import tid paths) tablet ≡ false
  loaded paths each = ap not (all_from (has_loaded tid tablet) paths (λ path there. has_from path (each path there)))

  pub each_loaded : (paths : List (List ℕ)) → is_lacking (Import tid paths) tablet ≡ false → (path : List ℕ) → Contains paths path → Contains tablet.loaded (entry_of path)
  each_loaded paths fine path there = has_some path (all_each (has_loaded tid tablet) paths path (turned (list_all (has_loaded tid tablet) paths) fine) there)

-- ---- layers

layered-append : (layers : List (List Cell)) (cells : List Cell) (key : Key) (below : Option (List ℕ)) → layered (layers ++ cells ∷ []) key below ≡ overlaid (latest cells key) (layered layers key below)
layered-append [] cells key below = refl
layered-append (first ∷ layers) cells key below = layered-append layers cells key (overlaid (latest first key) below)

pub last_counts : (layers : List (List Cell)) (cells : List Cell) (cell : Cell) (key : Key) (below : Option (List ℕ)) → latest cells key ≡ Some cell → layered (layers ++ cells ∷ []) key below ≡ cell.value
last_counts layers cells cell key below is = layered-append layers cells key below ∙ ap (λ o. overlaid o (layered layers key below)) is

pub others_count : (layers : List (List Cell)) (cells : List Cell) (key : Key) (below : Option (List ℕ)) → latest cells key ≡ None → layered (layers ++ cells ∷ []) key below ≡ layered layers key below
others_count layers cells key below is = layered-append layers cells key below ∙ ap (λ o. overlaid o (layered layers key below)) is

-- ---- tablets

module _ (one : (rows : Rows) (chain : List TabletRecord) (row : List ℕ) → IsChain rows chain → HasOneFor rows chain row) (known : Ground) (rows : Rows) (node : TableNode) (table : Table) (is : TableStands known rows node table) (tablet : TabletRecord) (content : List Cell) (key : Key) (there : Contains is.chain tablet) (holds : holds_row rows tablet key.row ≡ true) (told : tablet_content known rows tablet ≡ Some content) where
  newest : newest_at is.cells key ≡ newest_at content key
  newest = has_what_its_tablet_has known rows key tablet content told (λ chain of. one rows chain key.row of) is.chain is.cells is.is_chain is.content there holds

  pub with_mark : is_lacking node.mark tablet ≡ true → (files : List (List Cell)) → all_told (whole_layer known) (mark_paths node.mark) ≡ Some files → map_of.get table.pairs key ≡ layered files key (newest_at content key)
  with_mark lacks files whole = is.pairs key ∙ inside known rows is.chain node.mark is.layers key (newest_at is.cells key) is.brought tablet files there lacks holds whole ∙ ap (layered files key) newest

  pub without_mark : is_lacking node.mark tablet ≡ false → map_of.get table.pairs key ≡ newest_at content key
  without_mark fine =
      is.pairs key
      ∙ outside known rows is.chain node.mark is.layers key (newest_at is.cells key) is.brought
      (λ other among lacks reaches. (let owner = one rows is.chain key.row is.is_chain in
      let same : other ≡ tablet = owner.only other among reaches ∙ sym (owner.only tablet there holds) in
      let wrong : true ≡ false = sym lacks ∙ ap (is_lacking node.mark) same ∙ fine in
      cc))
      ∙ newest
