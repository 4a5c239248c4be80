-- The first of some tablets that is on no live server.
use Rattle.std.proofs.Common.{◌≡◌, ℕ, ◌+◌, ◌<◌, suc, length, take, drop, get_or, List, [], ◌∷◌, ◌++◌, Option, Some, None, All, sym, ◌∙◌, ap, subst, append_assoc, take-append-drop, drop-cons}
use Rattle.std.proofs.lemmas.List.{take_more}
use Rattle.std.proofs.lemmas.List.Elements.{All-push, All-cons, All-head}
use Rattle.row_keys.specs.MetadataRow.{metadata_row}
use Rattle.metadata_schema.specs.declared.tablet.TabletRecord.{TabletRecord}
use Rattle.server_list.specs.declared.entry.Place.{Place}
use Rattle.server_list.specs.Servers.{Servers}
use Rattle.level_cache.specs.Down.{IsLive, IsAway, IsFirstAway, IsDownIn}

module _ (servers : Servers) (tablets : List TabletRecord) (i : ℕ) (tablet : TabletRecord) (lt : i < length tablets) (at : tablet ≡ get_or tablets i tablet) where
  next_take : take (i + 1) tablets ≡ take i tablets ++ tablet ∷ []
  next_take = take_more tablets i tablet lt ∙ ap (λ t. take i tablets ++ t ∷ []) (sym at)

  parted : tablets ≡ take i tablets ++ tablet ∷ drop (suc i) tablets
  parted = sym (take-append-drop i tablets) ∙ ap (λ l. take i tablets ++ l) (drop-cons tablets i tablet lt ∙ ap (λ t. t ∷ drop (suc i) tablets) (sym at))

  -- one more is live
  pub one_more : All (IsLive servers) (take i tablets) → IsLive servers tablet → All (IsLive servers) (take (i + 1) tablets)
  one_more all live = subst (All (IsLive servers)) (sym next_take) (All-push (IsLive servers) (take i tablets) tablet all live)

  -- this one isn't
  pub first_here : All (IsLive servers) (take i tablets) → (row : List ℕ) (place : Place) → row ≡ metadata_row tablet.table tablet.end → IsAway servers tablet place → IsFirstAway servers tablets (row, place)
  first_here all row place is away = record { front = take i tablets; tablet = tablet; back = drop (suc i) tablets; are = parted; before = all; row = is; place = away }

-- of one tablet and those behind it
module _ (servers : Servers) (root : TabletRecord) (records : List TabletRecord) where
  pub down_first : (down : List ℕ × Place) → IsFirstAway servers (root ∷ []) down → IsFirstAway servers (root ∷ records) down
  down_first down first = record {
    front = first.front;
    tablet = first.tablet;
    back = first.back ++ records;
    are = ap (λ l. l ++ records) first.are ∙ append_assoc first.front (first.tablet ∷ first.back) records;
    before = first.before;
    row = first.row;
    place = first.place;
  }

  pub down_behind : IsLive servers root → (found : Option (List ℕ × Place)) → IsDownIn servers records found → IsDownIn servers (root ∷ records) found
  down_behind live None all = All-cons (IsLive servers) root records live all
  down_behind live (Some down) away = record {
    front = root ∷ away.front;
    tablet = away.tablet;
    back = away.back;
    are = ap (λ l. root ∷ l) away.are;
    before = All-cons (IsLive servers) root away.front live away.before;
    row = away.row;
    place = away.place;
  }

-- the root tablet is live where each of its list is
pub live_root : (servers : Servers) (root : TabletRecord) (roots : List TabletRecord) → roots ≡ root ∷ [] → All (IsLive servers) roots → IsLive servers root
live_root servers root roots are all = All-head (IsLive servers) root [] (subst (All (IsLive servers)) are all)
