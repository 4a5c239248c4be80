-- Names of tables that stand apart.
use Rattle.std.proofs.Common.{◌≡◌, ◌⊎◌, inl, inr, ℕ, Bool, true, false, cond, List, Option, Some, None, IsTrue, refl, sym, ◌∙◌, ap, subst}
use Rattle.std.specs.List.{Contains}
use Rattle.std.proofs.lemmas.Bool.{and_parts}
use Rattle.std.proofs.lemmas.Option.{same_Some, none-some}
use Rattle.std.proofs.lemmas.Slice.Eq.{bytes_eq-Decides}
use Rattle.metadata_schema.specs.Bytes.{same}
use Rattle.node_store.specs.Nodes.{Nodes}
use Rattle.store_layout.specs.declared.tables.TableNode.{TableNode}
use Rattle.store_layout.specs.declared.tables.TableState.{TableState}
use Rattle.store_layout.specs.declared.tables.TableState.TheVariants.{New, Online, Deleting}
use Rattle.store_layout.specs.Tables.{IsTableAt, Catalog, TellsTable, IsCatalogOf}
use Rattle.table_names.specs.Tables.{AreTables, is_online, is_online_named}
use Rattle.table_names.specs.Names.{IsOnlineAs, AreNamesApart, with_table, IsNameFree}
use Rattle.table_names.proofs.ListLemmas.{same_table, told_of}

-- ---- tables in a catalog

in_option : (nodes : Nodes) (id : List ℕ) (table : TableNode) (o : Option TableNode) → TellsTable nodes id o → IsTableAt nodes id table → o ≡ Some table
in_option nodes id table None none at = absurd (none-some at.node (sym none ∙ at.there))
in_option nodes id table (Some other) tells at = ap Some (same_table nodes id id other table refl tells at)

pub in_catalog : (nodes : Nodes) (catalog : Catalog) (id : List ℕ) (table : TableNode) → IsCatalogOf nodes catalog → IsTableAt nodes id table → catalog.tables id ≡ Some table
in_catalog nodes catalog id table of at = in_option nodes id table (catalog.tables id) (of.tables id) at

online : (state : TableState) → is_online state ≡ true → state ≡ Online
online New is = cc
online Online is = refl
online Deleting is = cc

online_as : (nodes : Nodes) (catalog : Catalog) (tables : List TableNode) (name : List ℕ) (table : TableNode) → IsCatalogOf nodes catalog → AreTables nodes tables → Contains tables table → IsTrue (is_online_named name table) → IsOnlineAs catalog name table.id
online_as nodes catalog tables name table of are among named =
    let parts = and_parts (is_online table.state) (same table.name name) named in
    record {
      table = table;
      there = in_catalog nodes catalog table.id table of (told_of nodes tables table are among);
      online = online table.state parts.0;
      named = (bytes_eq-Decides table.name name).0 parts.1;
    }

pub one_named : (nodes : Nodes) (catalog : Catalog) (tables : List TableNode) (name : List ℕ) (one other : TableNode) → IsCatalogOf nodes catalog → AreNamesApart catalog → AreTables nodes tables → Contains tables one → Contains tables other
    → IsTrue (is_online_named name one) → IsTrue (is_online_named name other) → one ≡ other
one_named nodes catalog tables name one other of apart are one_in other_in p q =
    same_table nodes one.id other.id one other
    (apart.apart name one.id other.id (online_as nodes catalog tables name one of are one_in p) (online_as nodes catalog tables name other of are other_in q))
    (told_of nodes tables one are one_in) (told_of nodes tables other are other_in)

-- ---- one table more

pub record IsNewOrOld (catalog : Catalog) (table : TableNode) (name id : List ℕ) : Type 0 where
  pub either : ((id ≡ table.id) × (table.state ≡ Online) × (table.name ≡ name)) ⊎ IsOnlineAs catalog name id

new_or_old : (catalog : Catalog) (table : TableNode) (name id : List ℕ) → IsOnlineAs (with_table catalog table) name id → IsNewOrOld catalog table name id
new_or_old catalog table name id is = by (same id table.id) refl is.there
  where
    by : (b : Bool) → same id table.id ≡ b → cond b (Some table) (catalog.tables id) ≡ Some is.table → IsNewOrOld catalog table name id
    by true alike there =
        let it : table ≡ is.table = same_Some table is.table there in
        record { either = inl ((bytes_eq-Decides id table.id).0 alike, ap (λ (t : TableNode). t.state) it ∙ is.online, ap (λ (t : TableNode). t.name) it ∙ is.named) }
    by false other there = record { either = inr (record { table = is.table; there = there; online = is.online; named = is.named }) }

pub stay_apart : (catalog : Catalog) (table : TableNode) → AreNamesApart catalog → IsNameFree catalog table → AreNamesApart (with_table catalog table)
stay_apart catalog table apart free = record { apart = λ name id other p q. both name id other (new_or_old catalog table name id p).either (new_or_old catalog table name other q).either }
  where
    is_new : (name id : List ℕ) → table.state ≡ Online → table.name ≡ name → IsOnlineAs catalog name id → id ≡ table.id
    is_new name id state named old = free.free state id (subst (λ n. IsOnlineAs catalog n id) (sym named) old)

    both : (name id other : List ℕ) → ((id ≡ table.id) × (table.state ≡ Online) × (table.name ≡ name)) ⊎ IsOnlineAs catalog name id → ((other ≡ table.id) × (table.state ≡ Online) × (table.name ≡ name)) ⊎ IsOnlineAs catalog name other → id ≡ other
    both name id other (inl p) (inl q) = p.0 ∙ sym q.0
    both name id other (inl p) (inr q) = p.0 ∙ sym (is_new name other p.1 p.2 q)
    both name id other (inr p) (inl q) = is_new name id q.1 q.2 p ∙ sym q.0
    both name id other (inr p) (inr q) = apart.apart name id other p q
