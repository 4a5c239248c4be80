-- The number that a counter says isn't in use.
use Rattle.std.proofs.Common.{◌≡◌, inl, inr, ℕ, ◌≤◌, List, Option, Some, None, refl, sym, ◌∙◌, ap, subst, arith}
use Rattle.std.specs.FinMap as map_of
use Rattle.std.proofs.lemmas.Fmt.{decimal_injective}
use Rattle.std.proofs.lemmas.Option.{same_Some}
use Rattle.row_keys.specs.Forms.{IsUserTableId, IsSessionId}
use Rattle.plain_model.specs.State.{PlainState}
use Rattle.metadata_schema.specs.declared.tablet.TabletRecord.{TabletRecord}
use Rattle.node_store.specs.declared.changes.Node.{Node}
use Rattle.node_store.specs.Nodes.{Nodes}
use Rattle.store_layout.specs.Nodes.{IsNext, next_name_path, next_table_path, next_session_path}
use Rattle.store_layout.specs.Numbers.{base36_number, base16_number}
use Rattle.store_layout.specs.Tables.{Catalog}
use Rattle.store_layout.specs.declared.tables.TableNode.{TableNode}
use Rattle.store_meaning.specs.Ground.{Ground}
use Rattle.store_meaning.specs.Levels.{Reading}
use Rattle.store_meaning.specs.Kept.{IsKeptAs}
use Rattle.store_meaning.proofs.StateLemmas.{none}
use Rattle.kept_meaning.specs.Drawn.{IsNewName, IsNewId, IsNewSession}

-- one counter stands at one number
pub one_next : (nodes : Nodes) (path : List ℕ) (a b : ℕ) → IsNext nodes path a → IsNext nodes path b → a ≡ b
one_next nodes path a b one other =
    let same : one.node ≡ other.node = same_Some _ _ (sym one.there ∙ other.there) in
    decimal_injective a b (omega (arith, one.value.most)) (omega (arith, other.value.most)) (sym one.value.is ∙ ap (λ (n : Node). n.value) same ∙ other.value.is)

module _ (reading : Reading) (catalog : Catalog) (known : Ground) (state : PlainState) (is : IsKeptAs reading catalog known state) where
  pub new_name : (next number : ℕ) → IsNext known.nodes next_name_path next → next ≤ number → IsNewName reading catalog known.nodes number
  new_name next number counter past =
      let same : is.names.next ≡ next = one_next known.nodes next_name_path is.names.next next is.names.counter counter in
      record {
        files = λ path used form at. (let less = is.names.files path used form in omega (arith, less, same, past, at));
        directories = λ tablet text of dir at. (let less = is.names.directories tablet of text dir in omega (arith, less, same, past, at));
      }

  pub new_id : (next : ℕ) (id : List ℕ) → IsNext known.nodes next_table_path next → IsUserTableId id → next ≤ base36_number id → IsNewId reading catalog known id
  new_id next id counter user past = record {
    table = by (catalog.tables id) refl;
    records = λ tablet of at.
        let less = is.ids.records tablet of (subst IsUserTableId (sym at) user) in
        let number : base36_number tablet.table ≡ base36_number id = ap base36_number at in
        omega (arith, less, same, past, number);
    mutations = λ log mutation there at.
        let less = is.ids.mutations log mutation there (subst IsUserTableId (sym at) user) in
        let number : base36_number mutation.table ≡ base36_number id = ap base36_number at in
        omega (arith, less, same, past, number);
  }
    where
      same : is.ids.next ≡ next
      same = one_next known.nodes next_table_path is.ids.next next is.ids.counter counter

      by : (found : Option TableNode) → catalog.tables id ≡ found → found ≡ None
      by None e = refl
      by (Some node) e = absurd (let less = is.ids.tables id node e in omega (arith, less, same, past))

  pub no_rows : (id : List ℕ) → IsNewId reading catalog known id → (end : Option (List ℕ)) → reading.users.records id end ≡ None
  no_rows id new end = by (reading.users.records id end) refl
    where
      by : (found : Option TabletRecord) → reading.users.records id end ≡ found → found ≡ None
      by None e = refl
      by (Some tablet) e = absurd (new.records tablet (inr (inr (record { table = id; end = end; there = e }))) (is.stands.read.levels.users.forms id end tablet e).table_is)

  pub no_table : (id : List ℕ) → IsNewId reading catalog known id → map_of.get state.tables id ≡ None
  no_table id new = none reading catalog known state id is.stands new.table

  pub new_session : (next : ℕ) (session : List ℕ) → IsNext known.nodes next_session_path next → IsSessionId session → next ≤ base16_number session → IsNewSession reading known.nodes session
  new_session next session counter form past =
      let same : is.sessions.next ≡ next = one_next known.nodes next_session_path is.sessions.next next is.sessions.counter counter in
      record {
        server = λ used. (let less = is.sessions.sessions session (inl used) in omega (arith, less, same, past));
        holder = λ used. (let less = is.sessions.sessions session (inr (inr used)) in omega (arith, less, same, past));
        log = λ used. (let less = is.sessions.sessions session (inr (inl used)) in omega (arith, less, same, past));
        in_use = λ used. (let less = is.sessions.logs _ used (record { session = session; is = refl; form = form }) in omega (arith, less, same, past));
      }
