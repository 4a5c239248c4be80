-- Tables that are put into a state one after another.
use Rattle.std.proofs.Common.{◌≡◌, ◌≢◌, inl, inr, ℕ, Bool, true, false, cond, nat_eq, List, [], ◌∷◌, ◌++◌, Contains, map as mapped, Option, Some, None, refl, sym, ◌∙◌, ap, subst}
use Rattle.std.specs.Prelude.{MatchBool, find}
use Rattle.std.specs.FinMap as map
use Rattle.std.specs.FinMap.{get-entries, entries_sorted}
use Rattle.std.specs.Cmp.Lexicographic.{pointwise}
use Rattle.std.proofs.lemmas.Bool.{false≢true, cases_Bool}
use Rattle.std.proofs.lemmas.Option.{none-some, same_Some}
use Rattle.row_keys.specs.RowOrder.{bytes_cmp}
use Rattle.metadata_schema.specs.Bytes.{same}
use Rattle.plain_model.specs.State.{Table, PlainState, nothing}
use Rattle.plain_model.specs.Apply.{has_name}
use Rattle.plain_model.specs.Laws.{AreNamedApart}
use Rattle.plain_model.proofs.LawsLemmas.{unnamed, nothing_apart}
use Rattle.level_rows.specs.Chain.{Rows}
use Rattle.level_rows.proofs.EndLemmas.{same-true, same-refl, same-itself}
use Rattle.store_layout.specs.declared.tables.TableNode.{TableNode}
use Rattle.store_meaning.specs.Ground.{Ground}
use Rattle.store_meaning.specs.Levels.{Reading}
use Rattle.store_meaning.specs.Stands.{is_online, IsTableOf, TableAt}
use Rattle.plain_reader.specs.Tables.{PutsTable}
use Rattle.plain_state.specs.Catalogs.{table_of}
use Rattle.plain_state.specs.States.{ArePut}
use Rattle.plain_state.proofs.ListLemmas.{found_behind, found_still, any_value}

-- ---- one table more

differ : (one other : List ℕ) → one ≢ other → same one other ≡ false
differ one other apart = elim (cases_Bool (same one other)) [ inl is ↦ absurd (apart (same-true one other is)) | inr is ↦ is ]

table_own : (tables : List TableNode) (table : TableNode) → table_of tables table.id ≡ None → table_of (tables ++ table ∷ []) table.id ≡ Some table
table_own tables table fresh = found_behind (λ (t : TableNode). same t.id table.id) tables (table ∷ []) fresh ∙ ap (λ b. cond b (Some table) None) (same-refl table.id)

table_other : (tables : List TableNode) (table : TableNode) (id : List ℕ) → id ≢ table.id → table_of (tables ++ table ∷ []) id ≡ table_of tables id
table_other tables table id apart = found_still (λ (t : TableNode). same t.id id) tables table (differ table.id id (λ is. apart (sym is)))

module _ (known : Ground) (reading : Reading) where
  rows : List ℕ → Rows
  rows id = reading.users.records id

  pub put_none : (state : PlainState) → state ≡ nothing → ArePut known reading [] state
  put_none state e = record {
    each = λ id. ap (λ (s : PlainState). map.get s.tables id) e ∙ map.get-empty bytes_cmp id;
    apart = subst AreNamedApart (sym e) nothing_apart;
    staged = ap (λ (s : PlainState). s.staged) e;
  }

  module _ (tables : List TableNode) (table : TableNode) (state : PlainState) (are : ArePut known reading tables state) (fresh : table_of tables table.id ≡ None) where
    -- the state has nothing yet at the table's id
    none_yet : map.get state.tables table.id ≡ None
    none_yet = subst (λ o. TableAt known (reading.users.records table.id) o (map.get state.tables table.id)) fresh (are.each table.id)

    -- what stood before stands still
    kept : (new : PlainState) (id : List ℕ) → id ≢ table.id → map.get new.tables id ≡ map.get state.tables id → TableAt known (reading.users.records id) (table_of (tables ++ table ∷ []) id) (map.get new.tables id)
    kept new id apart same_there =
        subst (λ o. TableAt known (reading.users.records id) o (map.get new.tables id)) (sym (table_other tables table id apart))
        (subst (TableAt known (reading.users.records id) (table_of tables id)) (sym same_there) (are.each id))

    own : (new : PlainState) → TableAt known (reading.users.records table.id) (Some table) (map.get new.tables table.id) → (id : List ℕ) → id ≡ table.id → TableAt known (reading.users.records id) (table_of (tables ++ table ∷ []) id) (map.get new.tables id)
    own new at id is =
        subst (λ i. TableAt known (reading.users.records i) (table_of (tables ++ table ∷ []) i) (map.get new.tables i)) (sym is)
        (subst (λ o. TableAt known (reading.users.records table.id) o (map.get new.tables table.id)) (sym (table_own tables table fresh)) at)

    each_of : (new : PlainState) → TableAt known (reading.users.records table.id) (Some table) (map.get new.tables table.id) → ((id : List ℕ) → id ≢ table.id → map.get new.tables id ≡ map.get state.tables id)
        → (id : List ℕ) → TableAt known (reading.users.records id) (table_of (tables ++ table ∷ []) id) (map.get new.tables id)
    each_of new at others id = elim (cases_Bool (same id table.id)) [
      | inl is ↦ own new at id (same-true id table.id is)
      | inr differs ↦ (let apart : id ≢ table.id = λ is. false≢true (sym differs ∙ same-itself id table.id is) in kept new id apart (others id apart))
    ]

    -- a table that isn't ONLINE
    pub put_skipped : is_online table.state ≡ false → ArePut known reading (tables ++ table ∷ []) state
    put_skipped offline = record {
      each = each_of state (subst (λ b. MatchBool b (IsTableOf known (reading.users.records table.id) table (map.get state.tables table.id)) (map.get state.tables table.id ≡ None)) (sym offline) none_yet) (λ id apart. refl);
      apart = are.apart;
      staged = are.staged;
    }

    module _ (new : PlainState) (online : is_online table.state ≡ true) (puts : PutsTable known (reading.users.records table.id) table state new) (free : has_name table.name state ≡ false) where
      named : (t : Table) → map.get new.tables table.id ≡ Some t → t.name ≡ table.name
      named t found = ap (λ (x : Table). x.name) (same_Some t puts.stands.table (sym found ∙ puts.stands.is)) ∙ puts.stands.stands.name

      -- no other table has its name
      alone : (id : List ℕ) (t : Table) → id ≢ table.id → map.get new.tables id ≡ Some t → t.name ≡ table.name → ⊥
      alone id t apart found is = unnamed table.name state id t free (sym (puts.others id apart) ∙ found) is

      apart_at : (id other : List ℕ) (t u : Table) → map.get new.tables id ≡ Some t → map.get new.tables other ≡ Some u → t.name ≡ u.name → (b c : Bool) → same id table.id ≡ b → same other table.id ≡ c → id ≡ other
      apart_at id other t u found also is true true p q = same-true id table.id p ∙ sym (same-true other table.id q)
      apart_at id other t u found also is true false p q =
          absurd (alone other u (λ e. false≢true (sym q ∙ same-itself other table.id e)) also (sym is ∙ named t (ap (map.get new.tables) (sym (same-true id table.id p)) ∙ found)))
      apart_at id other t u found also is false true p q =
          absurd (alone id t (λ e. false≢true (sym p ∙ same-itself id table.id e)) found (is ∙ named u (ap (map.get new.tables) (sym (same-true other table.id q)) ∙ also)))
      apart_at id other t u found also is false false p q =
          are.apart.apart id other t u (sym (puts.others id (λ e. false≢true (sym p ∙ same-itself id table.id e))) ∙ found) (sym (puts.others other (λ e. false≢true (sym q ∙ same-itself other table.id e))) ∙ also) is

      -- an ONLINE table
      pub put_more : ArePut known reading (tables ++ table ∷ []) new
      put_more = record {
        each = each_of new (subst (λ b. MatchBool b (IsTableOf known (reading.users.records table.id) table (map.get new.tables table.id)) (map.get new.tables table.id ≡ None)) (sym online) puts.stands) puts.others;
        apart = record { apart = λ id other t u found also is. apart_at id other t u found also is (same id table.id) (same other table.id) refl refl };
        staged = puts.staged ∙ are.staged;
      }

-- ---- names

-- a table of the state has the name
pub name_taken : (name : List ℕ) (state : PlainState) → has_name name state ≡ true → (id : List ℕ) × (table : Table) × (map.get state.tables id ≡ Some table) × (table.name ≡ name)
name_taken name state taken =
    let found = any_value (λ (t : Table). pointwise nat_eq name t.name) (map.entries state.tables) (entries_sorted state.tables) taken in
    (found.0, found.1, get-entries state.tables found.0 ∙ found.2, sym (same-true name found.1.name found.3))
