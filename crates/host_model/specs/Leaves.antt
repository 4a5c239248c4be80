-- What every crash since some moment leaves.
use Rattle.std.specs.Prelude.{◌≡◌, ◌⊎◌, ℕ, ◌≤◌, ◌++◌, take, List}
use Rattle.host_model.specs.Picture.{Picture, Image}
use Rattle.host_model.specs.State.{HostState}

-- A crash at any moment since `first` leaves only pictures of this kind.
pub record LeavesOnly (kind : Picture → Type 0) (first now : HostState) : Type 0 where
  pub later : first.moment ≤ now.moment
  pub each : (p : Picture) → now.left_since first.moment p → kind p
  -- for a run that began earlier
  pub before : (t : ℕ) (p : Picture) → t ≤ first.moment → now.left_since t p → first.left_since t p ⊎ kind p

-- an image of this kind, with these bytes said
pub record Shows (kind : Image → Type 0) (said : List ℕ) (p : Picture) : Type 0 where
  pub image : kind p.image
  pub said_is : p.said ≡ said

-- this image, with a front of these bytes said behind those before
pub record Told (image : Image) (before bytes : List ℕ) (p : Picture) : Type 0 where
  pub image_is : p.image ≡ image
  pub count : ℕ
  pub said_is : p.said ≡ before ++ take count bytes

-- no write is pending: a crash leaves what reads give
pub record AllSettled (state : HostState) : Type 0 where
  pub each : (p : Picture) → state.may_leave p → p.image ≡ state.files
