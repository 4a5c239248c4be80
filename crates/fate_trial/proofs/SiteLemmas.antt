-- What changes of a site's nodes make of its disk.
use Rattle.std.proofs.Common.{◌≡◌, inl, inr, ⊎_elim, ℕ, List, [], None, Result, Ok, Err, IsTrue, refl, sym, ◌∙◌, ap, subst}
use Rattle.host_model.specs.Picture.{Picture}
use Rattle.host_model.specs.State.{HostState, picture_now}
use Rattle.host_model.specs.Calls.{IsSound}
use Rattle.host_model.specs.Alters.{Alters}
use Rattle.host_model.specs.declared.fault.Stop.{Stop}
use Rattle.host_model.proofs.LeavesLemmas.{alters_leave}
use Rattle.node_store.specs.declared.changes.NodeOp.{NodeOp}
use Rattle.node_store.specs.Value.{StoreValue}
use Rattle.node_store.specs.Nodes.{Nodes}
use Rattle.node_store.specs.Image.{IsNodeFile, HasNodes, IsStored}
use Rattle.node_store.specs.Steps.{OthersStay, MayGive, Gives, HasApplied}
use Rattle.node_store.proofs.ImageLemmas.{stored_has}
use Rattle.fate_runner.specs.Works.{Acts}
use Rattle.fate_trial.specs.Layout.{nodes_name, value_at, written}
use Rattle.fate_trial.specs.declared.site.Site.{Site}
use Rattle.fate_trial.specs.Site.{nodes_of, IsReadable, Makes, MayMake, GoesOn}
use Rattle.fate_trial.proofs.DecodingLemmas.{read-nodes}
use Rattle.fate_trial.proofs.Values.{written-multi, written-none}

-- what a picture with these nodes shows
pub shows : (name : List ℕ) (p : Picture) (nodes : Nodes) → name ≡ nodes_name → HasNodes name p.image nodes → (nodes_of p ≡ nodes) × IsReadable p
shows name p nodes named has =
    let here : HasNodes nodes_name p.image nodes = subst (λ n. HasNodes n p.image nodes) named has in
    let is : nodes_of p ≡ nodes = read-nodes nodes_name p.image nodes here in
    (is, subst (λ n. HasNodes nodes_name p.image n) (sym is) here)

pub stored_shows : (store : StoreValue) (p : Picture) → store.name ≡ nodes_name → IsStored store p.image → nodes_of p ≡ store.nodes
stored_shows store p named stored = (shows store.name p store.nodes named (stored_has store p.image stored)).0

pub makes_none : (p : Picture) → Makes [] p p
makes_none p = record { said = refl; others = record { each = λ file other. refl }; readable = λ is. is; values = λ path. sym (written-none path (value_at (nodes_of p) path)) }

module _ (ops : List NodeOp) (store : StoreValue) (named : store.name ≡ nodes_name) (a : Picture) (stored : IsStored store a.image) where
  here : nodes_of a ≡ store.nodes
  here = stored_shows store a named stored

  made : (b : Picture) → b.said ≡ a.said → OthersStay store.name a.image b.image → HasApplied ops store b.image → Makes ops a b
  made b said others has =
      let after = shows store.name b has.after named has.has in
      record {
        said = said;
        others = subst (λ n. OthersStay n a.image b.image) named others;
        readable = λ _. after.1;
        values = λ path. ap (λ n. value_at n path) after.0 ∙ written-multi ops store.nodes has.after has.applies path ∙ ap (λ n. written ops path (value_at n path)) (sym here);
      }

  kept : (b : Picture) → b.said ≡ a.said → OthersStay store.name a.image b.image → HasNodes store.name b.image store.nodes → Makes [] a b
  kept b said others has =
      let after = shows store.name b store.nodes named has in
      record {
        said = said;
        others = subst (λ n. OthersStay n a.image b.image) named others;
        readable = λ _. after.1;
        values = λ path. ap (λ n. value_at n path) (after.0 ∙ sym here) ∙ sym (written-none path (value_at (nodes_of a) path));
      }

  may_make : (b : Picture) → b.said ≡ a.said → MayGive ops store a.image b.image → MayMake ops a b
  may_make b said gives = ⊎_elim (λ keeps. inl (kept b said gives.others keeps.has)) (λ has. inr (made b said gives.others has)) (gives.nodes stored)

  makes : (b : Picture) → b.said ≡ a.said → Gives ops store a.image b.image → Makes ops a b
  makes b said gives = made b said gives.others (gives.nodes stored)

module _ (ops : List NodeOp) (store : StoreValue) (named : store.name ≡ nodes_name) {a b : HostState} (sound : IsSound a) (stored : IsTrue a.is_faithful → IsStored store a.files) where
  -- a change that is made
  pub acts_made : {T E U : Type 0} {u : T} (v : U) → Alters (IsNodeFile store.name) (MayGive ops store) (Gives ops store) {T = T} {E = E} (Ok u) a b → Acts {T = U} (Ok v) (MayMake ops) (Makes ops) a b
  acts_made v alters = record {
    keeps = alters.quiet.keeps;
    tried = λ f. may_make ops store named (picture_now a) (stored f) (picture_now b) (alters.quiet.said f) (alters.tried f);
    done = λ f. makes ops store named (picture_now a) (stored f) (picture_now b) (alters.quiet.said f) (alters.done f);
    inside = λ h at_rest. alters_leave (MayMake ops (picture_now a)) sound h at_rest alters (inl (makes_none (picture_now a))) (λ p change said. may_make ops store named (picture_now a) (stored (sound.faithful h)) p said change);
    rests = λ h at_rest. alters.rests h at_rest;
  }

  -- one that failed
  pub acts_failed : {T E U : Type 0} {result : Result T E} (stop : Stop) → Alters (IsNodeFile store.name) (MayGive ops store) (Gives ops store) result a b → Acts {T = U} (Err stop) (MayMake ops) (Makes ops) a b
  acts_failed stop alters = record {
    keeps = alters.quiet.keeps;
    tried = λ f. may_make ops store named (picture_now a) (stored f) (picture_now b) (alters.quiet.said f) (alters.tried f);
    done = λ f. tt;
    inside = λ h at_rest. alters_leave (MayMake ops (picture_now a)) sound h at_rest alters (inl (makes_none (picture_now a))) (λ p change said. may_make ops store named (picture_now a) (stored (sound.faithful h)) p said change);
    rests = λ h at_rest. tt;
  }

-- the nodes in memory are those of the disk
pub site_nodes : {H : Type 0} (state : H → HostState) (site : Site H) → GoesOn state site → site.stopped ≡ None → IsTrue (state site.host).is_faithful → nodes_of (picture_now (state site.host)) ≡ site.nodes.nodes
site_nodes state site goes runs f = stored_shows site.nodes (picture_now (state site.host)) goes.named (goes.stored runs f)
