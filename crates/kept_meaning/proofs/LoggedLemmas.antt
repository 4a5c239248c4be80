-- The logs of tablets as one mutation more stands in a log.
use Rattle.std.proofs.Common.{◌≡◌, ◌⊎◌, inl, inr, ℕ, Bool, true, false, cond, List, [], ◌∷◌, ◌++◌, Option, Some, None, Contains, refl, sym, ◌∙◌, ap, subst}
use Rattle.std.specs.Option.{option_map}
use Rattle.std.proofs.lemmas.Bool.{and_parts}
use Rattle.std.proofs.lemmas.Option.{same_Some, none-some}
use Rattle.std.proofs.lemmas.List.Elements.{Contains-push_cases}
use Rattle.row_keys.specs.Forms.{IsUserTableId}
use Rattle.row_keys.specs.RowOrder.{is_within}
use Rattle.metadata_schema.specs.declared.mutation.Mutation.{Mutation}
use Rattle.metadata_schema.specs.declared.tablet.TabletRecord.{TabletRecord}
use Rattle.metadata_schema.specs.Bytes.{same}
use Rattle.level_rows.specs.Chain.{Rows, IsChain, effective_prev}
use Rattle.level_rows.specs.Extents.{holds_row}
use Rattle.level_rows.proofs.EndLemmas.{same-true}
use Rattle.node_store.specs.Nodes.{Nodes}
use Rattle.store_layout.specs.Tables.{Catalog, IsCatalogOf, TellsTable}
use Rattle.store_layout.specs.declared.tables.TableNode.{TableNode}
use Rattle.store_meaning.specs.Ground.{Ground}
use Rattle.store_meaning.specs.Content.{counts_for, logs_of}
use Rattle.store_meaning.specs.Levels.{Reading, root_id, metadata_id}
use Rattle.store_meaning.specs.Writes.{appended, StandsIn}
use Rattle.store_meaning.specs.Kept.{IsInSomeLog, IsChainTablet, AreLogged}
use Rattle.store_meaning.proofs.NewState.{true_false}
use Rattle.store_meaning.proofs.WrittenLemmas.{one_holder}

-- ---- ids

-- the nodes are of user tables alone
pub user_of_catalog : (nodes : Nodes) (catalog : Catalog) → IsCatalogOf nodes catalog → (id : List ℕ) (node : TableNode) → catalog.tables id ≡ Some node → IsUserTableId id
user_of_catalog nodes catalog of id node there =
    let is = subst (TellsTable nodes id) there (of.tables id) in
    subst IsUserTableId is.id_is is.form.id

pub metadata_is_no_user : IsUserTableId metadata_id → ⊥
metadata_is_no_user user = true_false user.each

pub root_is_no_user : IsUserTableId root_id → ⊥
root_is_no_user user = true_false user.each

-- ---- mutations in logs

-- what is in a log now was there before, or is the one that came
pub in_log_cases : (known : Ground) (log : List ℕ) (mutation : Mutation) (other : List ℕ) (m : Mutation) → IsInSomeLog (appended known log mutation) other m → IsInSomeLog known other m ⊎ ((other ≡ log) × (mutation ≡ m))
in_log_cases known log mutation other m is = by (same other log) refl is.told
  where
    pushed : (told : Option (List Mutation)) → known.mutations_of log ≡ told → other ≡ log → option_map (λ mutations. mutations ++ mutation ∷ []) told ≡ Some is.mutations → IsInSomeLog known other m ⊎ ((other ≡ log) × (mutation ≡ m))
    pushed None e at wrong = absurd (none-some is.mutations wrong)
    pushed (Some before) e at grown = elim (Contains-push_cases before mutation m (subst (λ l. Contains l m) (sym (same_Some _ _ grown)) is.there)) [
      | inl there ↦ inl (record { listed = is.listed; mutations = before; told = ap known.mutations_of at ∙ e; there = there })
      | inr one ↦ inr (at, one)
    ]

    by : (b : Bool) → same other log ≡ b → cond b (option_map (λ mutations. mutations ++ mutation ∷ []) (known.mutations_of log)) (known.mutations_of other) ≡ Some is.mutations
        → IsInSomeLog known other m ⊎ ((other ≡ log) × (mutation ≡ m))
    by true e told = pushed (known.mutations_of log) refl (same-true other log e) told
    by false e told = inl (record { listed = is.listed; mutations = is.mutations; told = told; there = is.there })

-- the tablet of a chain whose extent has the mutation's row is the one that names the log
pub holder_names : (known : Ground) (rows : Rows) (chain : List TabletRecord) → IsChain rows chain → (log : List ℕ) (mutation : Mutation) → StandsIn known rows chain log mutation
    → (tablet : TabletRecord) → Contains chain tablet → holds_row rows tablet mutation.row ≡ true → Contains (logs_of tablet) log
holder_names known rows chain is_chain log mutation stands tablet there holds =
    let also = (and_parts (counts_for stands.holder mutation) (is_within (effective_prev rows stands.holder) stands.holder.end mutation.row) stands.counts).1 in
    let is : stands.holder ≡ tablet = one_holder known rows chain is_chain mutation.row stands.holder tablet stands.there there also holds in
    subst (λ t. Contains (logs_of t) log) is stands.named

-- no mutation is lost where each tablet of its table whose extent has its row names the log
pub logged_appended : (reading : Reading) (catalog : Catalog) (known : Ground) (log : List ℕ) (mutation : Mutation) → AreLogged reading catalog known
    → ((rows : Rows) (tablet : TabletRecord) → IsChainTablet reading catalog mutation.table rows tablet → holds_row rows tablet mutation.row ≡ true → Contains (logs_of tablet) log)
    → AreLogged reading catalog (appended known log mutation)
logged_appended reading catalog known log mutation were names table rows tablet other m of there past = elim (in_log_cases known log mutation other m there) [
  | inl before ↦ were table rows tablet other m of before past
  | inr now ↦
      let of_table : table ≡ mutation.table = sym past.of ∙ ap (λ (x : Mutation). x.table) (sym now.1) in
      let named = names rows tablet (subst (λ t. IsChainTablet reading catalog t rows tablet) of_table of) (ap (λ (x : Mutation). holds_row rows tablet x.row) now.1 ∙ past.within) in
      subst (Contains (logs_of tablet)) (sym now.0) named
]
