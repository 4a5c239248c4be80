-- What a kept image stands for, along a script.
use Rattle.std.proofs.Common.{◌≡◌, inl, ⊎_elim, ℕ, ◌+◌, ◌<◌, ◌≤◌, Bool, true, false, List, [], length, take, Option, Some, None, refl, sym, ◌∙◌, ap, subst, arith}
use Rattle.std.specs.FinMap as map
use Rattle.std.specs.FinMap.{get-empty}
use Rattle.std.proofs.lemmas.List.{append-nil, length-map}
use Rattle.std.proofs.lemmas.List.Elements.{All-nil}
use Rattle.host_model.specs.Picture.{Image, Picture}
use Rattle.host_model.specs.State.{HostState}
use Rattle.node_store.specs.PathsTo.{path_cmp}
use Rattle.node_store.specs.Image.{IsUnborn}
use Rattle.node_store.proofs.ImageLemmas.{unborn_empty}
use Rattle.node_store.specs.declared.changes.Node.{Node}
use Rattle.store_layout.specs.Names.{nodes_name}
use Rattle.store_layout.specs.Nodes.{instance_path}
use Rattle.script_source.specs.Script.{lines_of, text_of}
use Rattle.plain_model.specs.History.{after}
use Rattle.table_store.specs.Tables.{Tables, AreDrawn, no_tables, plain_of}
use Rattle.store_meaning.specs.Readable.{IsReadable}
use Rattle.table_store.specs.Kept.{SaysTables, IsKept}
use Rattle.table_store.specs.Room.{Station}
use Rattle.plain_model.specs.declared.operation.Entry.{Entry}
use Rattle.table_store.proofs.LawsLemmas.{one_tables}
use Rattle.shell.specs.Script.{texts_of, AreWithin}
use Rattle.shell.specs.Serving.{entries_over}
use Rattle.shell.specs.ScriptServed.{tables_at, entries_at}
use Rattle.shell.specs.Crash.{IsLastPicture}
use Rattle.shell.specs.Readable.{IsStart, IsLeft}
use Rattle.shell.specs.Opening.{Begins}
use Rattle.shell.specs.Headline.{BeginsWith, StandsAfter, IsReported, StandsAfterFront, MayStand}
use Rattle.shell.proofs.PlainLemmas.{after_over}
use Rattle.shell.proofs.FrontLemmas.{lines_behind, entries_parted, unreported}

-- ---- the tables with which a run begins

-- their ids were drawn, and a number is next
pub record CanGoOn (tables : Tables) : Type 0 where
  pub ids : AreDrawn tables
  pub positive : 0 < tables.next

not_there : (id : List ℕ) → ◌≡◌ {A = Option (List ℕ)} None (Some id) → ⊥
not_there id is = cc

none_go_on : CanGoOn no_tables
none_go_on = record {
  ids = record {
    drawn = λ name id found. absurd (not_there id (sym (get-empty path_cmp name) ∙ found));
    differ = λ one two id found also. absurd (not_there id (sym (get-empty path_cmp one) ∙ found));
  };
  positive = omega arith;
}

pub begins_go_on : (init : Bool) (image : Image) (tables : Tables) → BeginsWith init image tables → CanGoOn tables
begins_go_on false image tables kept = record { ids = kept.says.reading.ids; positive = kept.says.reading.next.value.least }
begins_go_on true image tables begins = subst CanGoOn (sym begins.1) none_go_on

-- the image of a start can be read, or is unborn
pub begins_start : (init : Bool) (image : Image) (tables : Tables) → BeginsWith init image tables → IsStart init image
begins_start false image tables kept = kept.readable
begins_start true image tables begins = begins.0

pub same_start : (init : Bool) (image : Image) (start : Station) (tables : Tables) → Begins init image start → BeginsWith init image tables → start.tables ≡ tables
same_start false image start tables begins kept = one_tables image start.tables tables begins.says kept.says
same_start true image start tables begins also = begins.1.tables ∙ sym also.1

-- ---- an image that says tables isn't unborn

no_node : (node : Node) → ◌≡◌ {A = Option Node} None (Some node) → ⊥
no_node node is = cc

pub says_born : (image : Image) (tables : Tables) → SaysTables image tables → IsUnborn nodes_name image → ⊥
says_born image tables says unborn =
    let none = unborn_empty nodes_name image says.nodes says.has unborn in
    no_node says.reading.instance.node (sym (ap (λ n. map.get n instance_path) none ∙ get-empty path_cmp instance_path) ∙ says.reading.instance.is)

pub left_kept : (init : Bool) (image : Image) (tables : Tables) → SaysTables image tables → IsLeft init image → IsKept image tables
left_kept false image tables says readable = record { says = says; readable = readable }
left_kept true image tables says left = ⊎_elim (λ disk. absurd (says_born image tables says disk.nodes)) (λ readable. record { says = says; readable = readable }) left

-- ---- what images stand for

pub applied_at : (texts : List (List ℕ)) (tables : Tables) (count : ℕ) (entries : List Entry) (image : Image) → CanGoOn tables
    → SaysTables image (tables_at count texts tables) → entries ≡ entries_at count texts tables → after entries (plain_of tables) ≡ Some (plain_of (tables_at count texts tables))
applied_at texts tables count entries image start says are = ap (λ es. after es (plain_of tables)) are ∙ after_over 1 (take count texts) tables start.ids start.positive says.reading.next.value.most

pub stands_at : (texts : List (List ℕ)) (tables : Tables) (count : ℕ) (entries : List Entry) (image : Image) → CanGoOn tables
    → IsKept image (tables_at count texts tables) → entries ≡ entries_at count texts tables → StandsAfter (plain_of tables) entries image
stands_at texts tables count entries image start kept are = record {
  last = plain_of (tables_at count texts tables);
  applied = applied_at texts tables count entries image start kept.says are;
  stands = record { tables = tables_at count texts tables; kept = kept; state_is = refl };
}

pub stands_first : (tables : Tables) (image : Image) → IsKept image tables → StandsAfter (plain_of tables) [] image
stands_first tables image kept = record { last = plain_of tables; applied = refl; stands = record { tables = tables; kept = kept; state_is = refl } }

-- a picture before anything was done
pub fronts_first : (first : HostState) (tables : Tables) (p : Picture) → IsKept p.image tables → StandsAfterFront first tables [] p
fronts_first first tables p kept = record { front = []; rest = []; parts = refl; stands = stands_first tables p.image kept; unreported = All-nil (λ entry. IsReported first tables p entry → ⊥) }

pub may_stand_first : (init : Bool) (first : HostState) (tables : Tables) → BeginsWith init first.files tables → (p : Picture) → p.image ≡ first.files → p.said ≡ first.said → MayStand init first tables [] p
may_stand_first false first tables kept p image said = fronts_first first tables p (subst (λ i. IsKept i tables) (sym image) kept)
may_stand_first true first tables begins p image said = inl (record { unborn = rw image begins.0; said_is = said })

-- a picture while the script is served
pub fronts_last : (first : HostState) (tables : Tables) (entries : List Entry) (tried : ℕ) (p : Picture) → CanGoOn tables → AreWithin (lines_of first.script) tried
    → entries ≡ entries_at tried (texts_of first.script) tables → IsLastPicture tables (texts_of first.script) tried first.said p → IsReadable p.image → StandsAfterFront first tables entries p
fronts_last first tables entries tried p start within all last readable = ⊎_elim
    (λ whole. record {
      front = entries;
      rest = [];
      parts = sym (append-nil entries);
      stands = stands_at texts tables last.done entries p.image start kept (all ∙ ap (λ n. entries_at n texts tables) (sym whole));
      unreported = All-nil (λ entry. IsReported first tables p entry → ⊥);
    })
    (λ quiet. record {
      front = entries_at last.done texts tables;
      rest = entries_over (1 + last.done) (lines_behind texts last.done tried) (tables_at last.done texts tables);
      parts = all ∙ entries_parted texts tables last.done tried last.within there;
      stands = stands_at texts tables last.done (entries_at last.done texts tables) p.image start kept refl;
      unreported = unreported texts tables last.done tried last.within there first p refl quiet;
    })
    last.quiet
  where
    texts : List (List ℕ)
    texts = texts_of first.script

    kept : IsKept p.image (tables_at last.done texts tables)
    kept = record { says = last.says; readable = readable }

    there : tried ≤ length texts
    there = omega (arith, within.there, length-map (lines_of first.script) text_of)
