-- The cells of a chain of which one piece is replaced.
use Rattle.std.proofs.Common.{◌≡◌, ◌⊎◌, inl, inr, ℕ, true, List, [], ◌∷◌, ◌++◌, Contains, Option, Some, None, refl, sym, ◌∙◌, ap, subst, append_assoc, arith}
use Rattle.std.proofs.lemmas.Option.{same_Some}
use Rattle.std.proofs.lemmas.List.Elements.{Contains-append_left, Contains-append_right, Contains-append_cases}
use Rattle.row_keys.specs.declared.key.Key.{Key}
use Rattle.metadata_schema.specs.declared.tablet.TabletRecord.{TabletRecord}
use Rattle.cell_merge.specs.declared.cell.Cell.{Cell}
use Rattle.cell_merge.specs.Changes.{Covers}
use Rattle.level_rows.specs.Chain.{Rows, IsChain, IsChainFrom, GoesOn, effective_prev}
use Rattle.level_rows.specs.Changes.{StandAsBefore}
use Rattle.level_rows.specs.Extents.{holds_row}
use Rattle.level_rows.proofs.Membership.{Contains-cons_cases}
use Rattle.level_rows.proofs.WayLemmas.{row_of, not_twice, none_in}
use Rattle.store_meaning.specs.Ground.{Ground}
use Rattle.store_meaning.specs.Content.{both_told, all_told, content_of, tablet_content, contents_of}
use Rattle.store_meaning.specs.ChainWrites.{PieceChange, chain_before, chain_after, ReplacesPiece, content_with_piece, HasCovered}
use Rattle.store_meaning.proofs.MemberLemmas.{all_has, both_parts, both_are}
use Rattle.store_meaning.proofs.UseLemmas.{all_told_same}
use Rattle.store_meaning.proofs.ContentLemmas.{content_has}
use Rattle.store_meaning.proofs.WrittenLemmas.{one_holder}

-- the end row of the first of these
abbrev begins_above : List TabletRecord → Option (List ℕ)
begins_above [] = None
begins_above (tablet ∷ more) = tablet.end

-- ---- what is told of two lists

both_nothing : {Y : Type 0} (o : Option (List Y)) → both_told (Some []) o ≡ o
both_nothing None = refl
both_nothing (Some ys) = refl

both_assoc : {Y : Type 0} (o p q : Option (List Y)) → both_told o (both_told p q) ≡ both_told (both_told o p) q
both_assoc None p q = refl
both_assoc (Some a) None q = refl
both_assoc (Some a) (Some b) None = refl
both_assoc (Some a) (Some b) (Some c) = ap Some (sym (append_assoc a b c))

pub all_append : {X Y : Type 0} (f : X → Option (List Y)) (xs ys : List X) → all_told f (xs ++ ys) ≡ both_told (all_told f xs) (all_told f ys)
all_append f [] ys = sym (both_nothing (all_told f ys))
all_append f (x ∷ xs) ys = ap (both_told (f x)) (all_append f xs ys) ∙ both_assoc (f x) (all_told f xs) (all_told f ys)

-- ---- cells among others

-- fewer cells cover more, also beside cells of other keys
covers_among : (front back fewer all : List Cell) → Covers fewer all → ((cell other : Cell) → Contains all cell → Contains front other ⊎ Contains back other → other.key ≡ cell.key → ⊥)
    → Covers (front ++ (fewer ++ back)) (front ++ (all ++ back))
covers_among front back fewer all covers apart = record {
  within = λ cell there. elim (Contains-append_cases front (fewer ++ back) cell there) [
    | inl a ↦ in_front cell a
    | inr rest ↦ elim (Contains-append_cases fewer back cell rest) [
      | inl mid ↦ in_all cell (covers.within cell mid)
      | inr b ↦ in_back cell b
    ]
  ];
  covered = λ cell there. elim (Contains-append_cases front (all ++ back) cell there) [
    | inl a ↦ inl (cell, record { there = Contains-append_left front (fewer ++ back) cell a; key = refl; time = omega arith })
    | inr rest ↦ elim (Contains-append_cases all back cell rest) [
      | inl mid ↦ elim (covers.covered cell mid) [
        | inl late ↦ inl (late.0, record { there = Contains-append_right front (fewer ++ back) late.0 (Contains-append_left fewer back late.0 late.1.there); key = late.1.key; time = late.1.time })
        | inr dropped ↦ inr (
          dropped.0,
          record {
            late = record { there = in_all dropped.0 dropped.1.late.there; key = dropped.1.late.key; time = dropped.1.late.time };
            removes = dropped.1.removes;
            none = λ other there key. elim (Contains-append_cases front (fewer ++ back) other there) [
              | inl a ↦ apart cell other mid (inl a) key
              | inr more ↦ elim (Contains-append_cases fewer back other more) [ inl few ↦ dropped.1.none other few key | inr b ↦ apart cell other mid (inr b) key ]
            ];
          },
        )
      ]
      | inr b ↦ inl (cell, record { there = Contains-append_right front (fewer ++ back) cell (Contains-append_right fewer back cell b); key = refl; time = omega arith })
    ]
  ];
}
  where
    in_front : (cell : Cell) → Contains front cell → Contains (front ++ (all ++ back)) cell
    in_front cell a = Contains-append_left front (all ++ back) cell a

    in_all : (cell : Cell) → Contains all cell → Contains (front ++ (all ++ back)) cell
    in_all cell mid = Contains-append_right front (all ++ back) cell (Contains-append_left all back cell mid)

    in_back : (cell : Cell) → Contains back cell → Contains (front ++ (all ++ back)) cell
    in_back cell b = Contains-append_right front (all ++ back) cell (Contains-append_right all back cell b)

-- ---- the same chain of two look-ups

-- where a record of a chain begins is told by the record below it
below_it : (rows : Rows) (end : Option (List ℕ)) (lower : List TabletRecord) (tablet : TabletRecord) → IsChainFrom rows end (tablet ∷ lower) → effective_prev rows tablet ≡ begins_above lower
below_it rows end lower tablet chain = by (effective_prev rows tablet) chain.2
  where
    by : (low : Option (List ℕ)) → GoesOn low end (lower ≡ []) (λ row. IsChainFrom rows (Some row) lower) → low ≡ begins_above lower
    by None last = ap begins_above (sym last)
    by (Some row) more = at lower more.1
      where
        at : (tablets : List TabletRecord) → IsChainFrom rows (Some row) tablets → Some row ≡ begins_above tablets
        at [] none = absurd none
        at (t ∷ ts) way = sym way.1

chain_stands : (old new : Rows) (end : Option (List ℕ)) (tablets : List TabletRecord) → IsChainFrom old end tablets → IsChainFrom new end tablets → (tablet : TabletRecord) → Contains tablets tablet → effective_prev new tablet ≡ effective_prev old tablet
chain_stands old new end [] was is tablet there = absurd was
chain_stands old new end (t ∷ lower) was is tablet there = elim (Contains-cons_cases t tablet lower there) [
  | inl at ↦ subst (λ u. effective_prev new u ≡ effective_prev old u) at (below_it new end lower t is ∙ sym (below_it old end lower t was))
  | inr rest ↦ lower_stand (λ row one two. chain_stands old new (Some row) lower one two tablet rest) (effective_prev old t) (effective_prev new t) was.2 is.2 rest
]
  where
    lower_stand : ((row : List ℕ) → IsChainFrom old (Some row) lower → IsChainFrom new (Some row) lower → effective_prev new tablet ≡ effective_prev old tablet) → (low other : Option (List ℕ)) → GoesOn low end (lower ≡ []) (λ row. IsChainFrom old (Some row) lower) → GoesOn other end (lower ≡ []) (λ row. IsChainFrom new (Some row) lower) → Contains lower tablet → effective_prev new tablet ≡ effective_prev old tablet
    lower_stand deeper None other first second rest = absurd (none_in lower tablet first rest)
    lower_stand deeper (Some low) None first second rest = absurd (none_in lower tablet second rest)
    lower_stand deeper (Some low) (Some other) first second rest = deeper low first.1 (subst (λ row. IsChainFrom new row lower) (sym (same_start lower first.1 second.1)) second.1)
      where
        same_start : (tablets : List TabletRecord) → IsChainFrom old (Some low) tablets → IsChainFrom new (Some other) tablets → Some low ≡ Some other
        same_start [] one two = absurd one
        same_start (u ∷ us) one two = sym one.1 ∙ two.1

-- the tablets of a chain stand as before where they are the chain still
pub chains_stand : (old new : Rows) (tablets : List TabletRecord) → IsChain old tablets → IsChain new tablets → StandAsBefore old new tablets
chains_stand old new tablets was is = record {
  row = λ tablet there. row_of new None tablets tablet is there ∙ sym (row_of old None tablets tablet was there);
  prev = chain_stands old new None tablets was is;
}

-- ---- a piece of a chain

module _ (known : Ground) (old new : Rows) where
  -- tablets that stand as before have the cells that they had
  pub contents_stand : (tablets : List TabletRecord) → StandAsBefore old new tablets → contents_of known new tablets ≡ contents_of known old tablets
  contents_stand tablets stand = all_told_same (tablet_content known old) (tablet_content known new) tablets (λ tablet there. ap (λ low. content_of known low tablet) (stand.prev tablet there))

  module _ (piece : PieceChange) (replaces : ReplacesPiece old new piece) where
    pub piece_content : contents_of known new (chain_after piece) ≡ content_with_piece known old new piece
    piece_content =
        all_append (tablet_content known new) piece.above (piece.come ++ piece.below)
        ∙ ap (both_told (contents_of known new piece.above)) (all_append (tablet_content known new) piece.come piece.below)
        ∙ ap (λ o. both_told o (both_told (contents_of known new piece.come) (contents_of known new piece.below))) (contents_stand piece.above replaces.above)
        ∙ ap (λ o. both_told (contents_of known old piece.above) (both_told (contents_of known new piece.come) o)) (contents_stand piece.below replaces.below)

    -- a tablet elsewhere has no row of the piece
    apart_tablets : (tablet other : TabletRecord) → Contains piece.gone tablet → Contains piece.above other ⊎ Contains piece.below other → (row : List ℕ) → holds_row old tablet row ≡ true → holds_row old other row ≡ true → ⊥
    apart_tablets tablet other in_gone beside row holds also =
        let in_chain = Contains-append_right piece.above (piece.gone ++ piece.below) tablet (Contains-append_left piece.gone piece.below tablet in_gone) in
        let other_there : Contains (chain_before piece) other = elim beside [
          | inl a ↦ Contains-append_left piece.above (piece.gone ++ piece.below) other a
          | inr b ↦ Contains-append_right piece.above (piece.gone ++ piece.below) other (Contains-append_right piece.gone piece.below other b)
        ] in
        let same : tablet ≡ other = one_holder known old (chain_before piece) replaces.before row tablet other in_chain other_there holds also in
        elim beside [
          | inl a ↦ not_twice old None piece.above (piece.gone ++ piece.below) other replaces.before a (Contains-append_left piece.gone piece.below other (subst (Contains piece.gone) same in_gone))
          | inr b ↦ not_twice old None (piece.above ++ piece.gone) piece.below other (subst (IsChain old) (sym (append_assoc piece.above piece.gone piece.below)) replaces.before)
              (Contains-append_right piece.above piece.gone other (subst (Contains piece.gone) same in_gone)) b
        ]

    holds_of : (tablets : List TabletRecord) (cells : List Cell) → contents_of known old tablets ≡ Some cells → (cell : Cell) → Contains cells cell → (tablet : TabletRecord) × Contains tablets tablet × (holds_row old tablet cell.key.row ≡ true)
    holds_of tablets cells is cell there =
        let h = all_has (tablet_content known old) tablets cells is cell there in
        (h.0, h.2, (content_has known (effective_prev old h.0) h.0 h.1 h.3 cell h.4).0)

    -- where the cells of the piece are covered, those of the chain are
    pub piece_covered : (all was is : List Cell) → contents_of known old (chain_before piece) ≡ Some all → contents_of known old piece.gone ≡ Some was → contents_of known new piece.come ≡ Some is → Covers is was
        → HasCovered all (contents_of known new (chain_after piece))
    piece_covered all was is of_all of_was of_is covers =
        let first = both_parts (contents_of known old piece.above) (contents_of known old (piece.gone ++ piece.below)) all (sym (all_append (tablet_content known old) piece.above (piece.gone ++ piece.below)) ∙ of_all) in
        let rest = both_parts (contents_of known old piece.gone) (contents_of known old piece.below) first.1 (sym (all_append (tablet_content known old) piece.gone piece.below) ∙ first.3) in
        let gone : rest.0 ≡ was = same_Some _ _ (sym rest.2 ∙ of_was) in
        let whole : all ≡ first.0 ++ (was ++ rest.1) = first.4 ∙ ap (λ l. first.0 ++ l) (rest.4 ∙ ap (λ l. l ++ rest.1) gone) in
        record {
          cells = first.0 ++ (is ++ rest.1);
          is = piece_content ∙ both_are _ _ first.0 (is ++ rest.1) first.2 (both_are _ _ is rest.1 of_is rest.3);
          covers = subst (Covers (first.0 ++ (is ++ rest.1))) (sym whole) (covers_among first.0 rest.1 is was covers (λ cell other in_was beside key.
              let t = holds_of piece.gone was of_was cell in_was in
              elim beside [
                | inl a ↦ (let u = holds_of piece.above first.0 first.2 other a in apart_tablets t.0 u.0 t.1 (inl u.1) cell.key.row t.2 (ap (λ (k : Key). holds_row old u.0 k.row) (sym key) ∙ u.2))
                | inr b ↦ (let u = holds_of piece.below rest.1 rest.3 other b in apart_tablets t.0 u.0 t.1 (inr u.1) cell.key.row t.2 (ap (λ (k : Key). holds_row old u.0 k.row) (sym key) ∙ u.2))
              ]));
        }
