-- A new file, as one action behind another.
use Rattle.std.proofs.Common.{◌≡◌, inl, inr, ℕ, List, Some, None, subst}
use Rattle.host_model.specs.Picture.{Image}
use Rattle.host_model.specs.State.{HostState}
use Rattle.host_model.specs.Calls.{IsSound}
use Rattle.host_model.specs.declared.fault.Stop.{Stop}
use Rattle.cell_merge.specs.declared.cell.Cell.{Cell}
use Rattle.node_store.specs.Value.{StoreValue}
use Rattle.node_store.specs.Steps.{MayGive, Gives}
use Rattle.data_files.specs.Files.{IsDataFile, spelled_file}
use Rattle.store_layout.specs.Names.{file_of}
use Rattle.store_layout.specs.Nodes.{IsNext, draw_ops, next_name_path}
use Rattle.kept_meaning.proofs.DrawnLemmas.{one_next}
use Rattle.ground_store.specs.Value.{GroundValue}
use Rattle.ground_store.specs.Acts.{Acts}
use Rattle.ground_store.specs.Drawing.{IsDrawn, Draws, MayDraw}
use Rattle.ground_store.specs.Steps.{MayWrite, Writes}
use Rattle.ground_store.proofs.EventLemmas.{acts_then, acts_more}
use Rattle.new_files.specs.declared.kinds.FileKind.{FileKind}
use Rattle.new_files.specs.Names.{new_path}
use Rattle.new_files.specs.Putting.{MayPutNew, PutsNew}

abbrev Change : Type 1
Change = Image → Image → Type 0

-- where an action stopped it may have led to anything
failed : {H : Type 0} (state : H → HostState) {D A : Change} (B : Change) {stop : Stop} {x y : GroundValue H} → Acts state D A (Some stop) x y → Acts state D B (Some stop) x y
failed state B acts = record {
  goes = λ runs. let own = acts.goes runs in record { quiet = own.quiet; tried = own.tried; done = λ f. tt; leaves = own.leaves; rests = own.rests; goes_on = own.goes_on };
  stays = acts.stays;
}

module _ (table dir : List ℕ) (kind : FileKind) (cells : List Cell) (store : StoreValue) (number : ℕ) (drawn : IsDrawn store.nodes number) where
  -- the number that is drawn is the one that was planned
  same_number : (other : ℕ) → IsNext store.nodes next_name_path other → other ≡ number
  same_number other next = one_next store.nodes next_name_path other number next drawn.next

  gives_own : (a b : Image) (draws : Draws store a b) → Gives (draw_ops next_name_path number) store a b
  gives_own a b draws = subst (λ n. Gives (draw_ops next_name_path n) store a b) (same_number draws.number draws.next) draws.gives

  drawing : (a b : Image) → MayDraw store a b → MayPutNew table dir kind store a b
  drawing a b (inl stays) = inl stays
  drawing a b (inr half) = inr (inl (record { number = number; drawn = drawn; gives = subst (λ n. MayGive (draw_ops next_name_path n) store a b) (same_number half.number half.next) half.gives }))

  writing : (a b c : Image) → Draws store a b → MayWrite (file_of (new_path table dir kind number)) b c → MayPutNew table dir kind store a c
  writing a b c draws writes = inr (inr (record { number = number; drawn = drawn; made = b; gives = gives_own a b draws; writes = writes }))

  written : (a b c : Image) → IsDataFile (spelled_file cells) cells → Draws store a b → Writes (file_of (new_path table dir kind number)) (spelled_file cells) b c → PutsNew table dir kind cells store a c
  written a b c file draws writes = record { number = number; drawn = drawn; made = b; gives = gives_own a b draws; writes = writes; file = file }

module _ {H : Type 0} (state : H → HostState) {x y : GroundValue H} (sound : IsSound (state x.host)) (table dir : List ℕ) (kind : FileKind) (cells : List Cell) (number : ℕ) (drawn : IsDrawn x.nodes.nodes number) where
  -- the number isn't drawn
  pub draws_none : {stop : Stop} → Acts state (MayDraw x.nodes) (Draws x.nodes) (Some stop) x y → Acts state (MayPutNew table dir kind x.nodes) (PutsNew table dir kind cells x.nodes) (Some stop) x y
  draws_none {stop} draws = acts_more state (MayPutNew table dir kind x.nodes) (PutsNew table dir kind cells x.nodes) (Some stop) sound (failed state (PutsNew table dir kind cells x.nodes) draws) (λ f i may. drawing table dir kind cells x.nodes number drawn (state x.host).files i may) (λ f done. done)

  module _ (path : List ℕ) (path_is : path ≡ new_path table dir kind number) (draws : Acts state (MayDraw x.nodes) (Draws x.nodes) None x y) {z : GroundValue H} where
    -- it is drawn, and the file is written
    pub puts : IsDataFile (spelled_file cells) cells → Acts state (MayWrite (file_of path)) (Writes (file_of path) (spelled_file cells)) None y z → Acts state (MayPutNew table dir kind x.nodes) (PutsNew table dir kind cells x.nodes) None x z
    puts file writes =
        let own : Acts state (MayWrite (file_of (new_path table dir kind number))) (Writes (file_of (new_path table dir kind number)) (spelled_file cells)) None y z =
        subst (λ p. Acts state (MayWrite (file_of p)) (Writes (file_of p) (spelled_file cells)) None y z) path_is writes in
        acts_then state (MayPutNew table dir kind x.nodes) (PutsNew table dir kind cells x.nodes) sound draws own
        (λ f i may. drawing table dir kind cells x.nodes number drawn (state x.host).files i may)
        (λ f done i may. writing table dir kind cells x.nodes number drawn (state x.host).files (state y.host).files i done may)
        (λ f done whole. written table dir kind cells x.nodes number drawn (state x.host).files (state y.host).files (state z.host).files file done whole)

    -- or isn't
    pub puts_none : {stop : Stop} → Acts state (MayWrite (file_of path)) (Writes (file_of path) (spelled_file cells)) (Some stop) y z → Acts state (MayPutNew table dir kind x.nodes) (PutsNew table dir kind cells x.nodes) (Some stop) x z
    puts_none {stop} writes =
        let own : Acts state (MayWrite (file_of (new_path table dir kind number))) (λ a b. PutsNew table dir kind cells x.nodes (state x.host).files b) (Some stop) y z =
        subst (λ p. Acts state (MayWrite (file_of p)) (λ a b. PutsNew table dir kind cells x.nodes (state x.host).files b) (Some stop) y z) path_is (failed state (λ a b. PutsNew table dir kind cells x.nodes (state x.host).files b) writes) in
        acts_then state (MayPutNew table dir kind x.nodes) (PutsNew table dir kind cells x.nodes) sound draws own
        (λ f i may. drawing table dir kind cells x.nodes number drawn (state x.host).files i may)
        (λ f done i may. writing table dir kind cells x.nodes number drawn (state x.host).files (state y.host).files i done may)
        (λ f done whole. whole)
