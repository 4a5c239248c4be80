-- Tablets on live servers, as servers start, are killed and go.
use Rattle.std.proofs.Common.{◌≡◌, ◌≢◌, ◌⊎◌, inl, inr, ℕ, ◌+◌, Bool, true, false, cond, nat_le, List, Option, Some, None, refl, sym, ◌∙◌, ap, subst}
use Rattle.metadata_schema.specs.Bytes.{same}
use Rattle.metadata_schema.specs.declared.tablet.TabletRecord.{TabletRecord}
use Rattle.metadata_schema.specs.declared.tablet.Holder.{Holder}
use Rattle.level_rows.proofs.EndLemmas.{same-true}
use Rattle.server_list.specs.declared.entry.Place.{Place}
use Rattle.server_list.specs.declared.entry.Place.TheVariants.{Live, Unreachable, Unhosted}
use Rattle.server_list.specs.declared.entry.ServerEntry.{ServerEntry}
use Rattle.server_list.specs.Servers.{Servers, at_opening, server_of, server_named, started, killed, ended, ticked, ticks_to_expiry}
use Rattle.server_list.specs.Places.{place_of, place_on, place_until}
use Rattle.cluster_state.specs.Served.{AreApart}
use Rattle.cluster_state.specs.Station.{IsHosted}
use Rattle.cluster_state.proofs.ServerLists.{other_behind, live_was, other_stays, killed_is_dead, left_was, live_stays}

-- the tablet's `loc` names the session of a live server
pub record HostedBy (servers : Servers) (tablet : TabletRecord) : Type 0 where
  pub holder : Holder
  pub is : tablet.loc ≡ Some holder
  pub server : ServerEntry
  pub of : server_of holder.session servers ≡ Some server
  pub live : server.expires ≡ None

live_until : (clock : ℕ) (name own : List ℕ) (expires : Option ℕ) → place_until clock own expires ≡ Live name → expires ≡ None
live_until clock name own None at = refl
live_until clock name own (Some end) at = by (nat_le end clock) at
  where
    by : (b : Bool) → cond b Unhosted (Unreachable own end) ≡ Live name → Some end ≡ None
    by true at = absurd (let wrong : Unhosted ≡ Live name = at in cc)
    by false at = absurd (let wrong : Unreachable own end ≡ Live name = at in cc)

pub hosted_by : (servers : Servers) (tablet : TabletRecord) → IsHosted servers tablet → HostedBy servers tablet
hosted_by servers tablet (name, place) = by tablet.loc refl place
  where
    on : (holder : Holder) → tablet.loc ≡ Some holder → (found : Option ServerEntry) → server_of holder.session servers ≡ found → place_on servers.clock found ≡ Live name → HostedBy servers tablet
    on holder is None of at = absurd (let wrong : Unhosted ≡ Live name = at in cc)
    on holder is (Some server) of at = record { holder = holder; is = is; server = server; of = of; live = live_until servers.clock name server.name server.expires at }

    by : (loc : Option Holder) → tablet.loc ≡ loc → place_of loc servers ≡ Live name → HostedBy servers tablet
    by None is at = absurd (let wrong : Unhosted ≡ Live name = at in cc)
    by (Some holder) is at = on holder is (server_of holder.session servers) refl at

pub is_hosted : (servers : Servers) (tablet : TabletRecord) → HostedBy servers tablet → IsHosted servers tablet
is_hosted servers tablet by = (
  by.server.name,
  ap (λ loc. place_of loc servers) by.is ∙ ap (place_on servers.clock) by.of ∙ ap (place_until servers.clock by.server.name) by.live,
)

pub hosted_or_not : (servers : Servers) (tablet : TabletRecord) → IsHosted servers tablet ⊎ (IsHosted servers tablet → ⊥)
hosted_or_not servers tablet = by (place_of tablet.loc servers) refl
  where
    by : (place : Place) → place_of tablet.loc servers ≡ place → IsHosted servers tablet ⊎ (IsHosted servers tablet → ⊥)
    by (Live name) is = inl (name, is)
    by (Unreachable name end) is = inr (λ hosted. let wrong : Unreachable name end ≡ Live hosted.0 = sym is ∙ hosted.1 in cc)
    by Unhosted is = inr (λ hosted. let wrong : Unhosted ≡ Live hosted.0 = sym is ∙ hosted.1 in cc)

-- one holder
same_holder : (tablet : TabletRecord) (one other : Holder) → tablet.loc ≡ Some one → tablet.loc ≡ Some other → one.session ≡ other.session
same_holder tablet one other is at = (let both : Some one ≡ Some other = sym is ∙ at in ap (λ (h : Holder). h.session) (some_same both))
  where
    some_same : Some one ≡ Some other → one ≡ other
    some_same both = cc

-- ---- no server

pub none_at_opening : (tablet : TabletRecord) → IsHosted at_opening tablet → ⊥
none_at_opening tablet hosted = (let by = hosted_by at_opening tablet hosted in let wrong : None ≡ Some by.server = by.of in cc)

-- ---- the clock goes on

pub ticked_was : (ticks : ℕ) (servers : Servers) (tablet : TabletRecord) → IsHosted (ticked ticks servers) tablet → IsHosted servers tablet
ticked_was ticks servers tablet hosted =
    let by = hosted_by (ticked ticks servers) tablet hosted in is_hosted servers tablet (record { holder = by.holder; is = by.is; server = by.server; of = by.of; live = by.live })

pub ticked_is : (ticks : ℕ) (servers : Servers) (tablet : TabletRecord) → IsHosted servers tablet → IsHosted (ticked ticks servers) tablet
ticked_is ticks servers tablet hosted =
    let by = hosted_by servers tablet hosted in is_hosted (ticked ticks servers) tablet (record { holder = by.holder; is = by.is; server = by.server; of = by.of; live = by.live })

-- ---- a server starts

module _ (name session : List ℕ) (servers : Servers) (tablet : TabletRecord) (new : (holder : Holder) → tablet.loc ≡ Some holder → same holder.session session ≡ false) where
  behind : (holder : Holder) → tablet.loc ≡ Some holder → server_of holder.session (started name session servers) ≡ server_of holder.session servers
  behind holder is = other_behind holder.session (record { name = name; session = session; expires = None }) (new holder is) servers.list

  pub started_was : IsHosted (started name session servers) tablet → IsHosted servers tablet
  started_was hosted =
      let by = hosted_by (started name session servers) tablet hosted in
      is_hosted servers tablet (record { holder = by.holder; is = by.is; server = by.server; of = sym (behind by.holder by.is) ∙ by.of; live = by.live })

  pub started_is : IsHosted servers tablet → IsHosted (started name session servers) tablet
  started_is hosted =
      let by = hosted_by servers tablet hosted in
      is_hosted (started name session servers) tablet (record { holder = by.holder; is = by.is; server = by.server; of = behind by.holder by.is ∙ by.of; live = by.live })

-- ---- a server is killed

module _ (name : List ℕ) (servers : Servers) (tablet : TabletRecord) (dead : ServerEntry) (named : server_named name servers ≡ Some dead) where
  pub killed_was : IsHosted (killed name servers) tablet → IsHosted servers tablet
  killed_was hosted =
      let by = hosted_by (killed name servers) tablet hosted in
      is_hosted servers tablet (record { holder = by.holder; is = by.is; server = by.server; of = live_was name (servers.clock + ticks_to_expiry) by.holder.session by.server by.live servers.list by.of; live = by.live })

  -- it isn't on the killed one
  pub killed_elsewhere : AreApart servers.list → (hosted : IsHosted (killed name servers) tablet) → (holder : Holder) → tablet.loc ≡ Some holder → same holder.session dead.session ≡ true → ⊥
  killed_elsewhere apart hosted holder is at =
      let by = hosted_by (killed name servers) tablet hosted in
      killed_is_dead name (servers.clock + ticks_to_expiry) dead by.server by.live servers.list apart named
      (subst (λ s. server_of s (killed name servers) ≡ Some by.server) (same_holder tablet by.holder holder by.is is ∙ same-true holder.session dead.session at) by.of)

  pub killed_is : (holder : Holder) → tablet.loc ≡ Some holder → dead.session ≢ holder.session → IsHosted servers tablet → IsHosted (killed name servers) tablet
  killed_is holder is apart hosted =
      let by = hosted_by servers tablet hosted in
      is_hosted (killed name servers) tablet (record {
        holder = by.holder;
        is = by.is;
        server = by.server;
        of = other_stays name (servers.clock + ticks_to_expiry) by.holder.session dead by.server (λ at. apart (at ∙ same_holder tablet by.holder holder by.is is)) servers.list named by.of;
        live = by.live;
      })

-- ---- a server that has expired goes

module _ (name : List ℕ) (servers : Servers) (tablet : TabletRecord) where
  pub ended_was : AreApart servers.list → IsHosted (ended name servers) tablet → IsHosted servers tablet
  ended_was apart hosted =
      let by = hosted_by (ended name servers) tablet hosted in
      is_hosted servers tablet (record { holder = by.holder; is = by.is; server = by.server; of = left_was name by.holder.session by.server servers.list apart by.of; live = by.live })

  pub ended_is : (gone : ServerEntry) (at : ℕ) → server_named name servers ≡ Some gone → gone.expires ≡ Some at → IsHosted servers tablet → IsHosted (ended name servers) tablet
  ended_is gone at named dead hosted =
      let by = hosted_by servers tablet hosted in
      is_hosted (ended name servers) tablet (record {
        holder = by.holder;
        is = by.is;
        server = by.server;
        of = live_stays name by.holder.session gone by.server at dead by.live servers.list named by.of;
        live = by.live;
      })
