-- What every call of a product keeps, and that the number of its answer tells it.
use Rattle.std.specs.Prelude.{ℕ, ◌<◌, ◌≡◌, true, length}
use Rattle.answers.specs.Answers.{Said, done}
use Rattle.answers.specs.Word.{word}
use Rattle.boundary.specs.Product.{Product, Held, fits_held, said, room, after}
use Rattle.boundary.specs.Numbers.{answer_of}
use Rattle.boundary.specs.CRuns.{Typed}

-- the number of an answer tells it
abbrev pub Tells : Product → Said → Type 0
Tells P a = answer_of P.given (word a) ≡ a

-- what the types give of a state and the stores lent with it
pub record TypedHeld (P : Product) (h : Held P.State) : Type 0 where
  pub state : P.layout.Ranged h.state
  pub first : P.FirstStored h.first
  pub second : P.SecondStored h.second

-- no store is made longer or shorter
pub record SameSizes {State : Type 0} (before after : Held State) : Type 0 where
  pub first : length after.first ≡ length before.first
  pub second : length after.second ≡ length before.second

pub record Kept (P : Product) : Type 0 where
  -- numbers fit their places: of what stands for no state, of what create makes, and after every call
  pub none_ranged : P.layout.Ranged P.no_state
  pub made_ranged : (m : ℕ) (w : P.World) → said P (P.create m) w ≡ done → P.layout.Ranged (P.apart (after P (P.create m) w)).state
  pub ranged : (c : P.Call) (w : P.World) → Typed P w → P.layout.Ranged (P.apart (after P c w)).state
  -- stores keep their numbers
  pub fine : (h : Held P.State) → TypedHeld P h → P.Fine (P.world h)
  pub fine_kept : (c : P.Call) (w : P.World) → P.Fair c → P.Fine w → P.Fine (after P c w)
  pub stored : (c : P.Call) (h : Held P.State) → P.Fair c → TypedHeld P h → TypedHeld P (P.apart (after P c (P.world h)))
  -- the number of every answer but that of showing tells it
  pub told_create : (m : ℕ) (w : P.World) → Tells P (said P (P.create m) w)
  pub told_on : (c : P.OnState) (h : Held P.State) → TypedHeld P h → Tells P (said P (P.on c) (P.world h))
  -- and the room told beside it has 16 bits
  pub room_on : (c : P.OnState) (h : Held P.State) → TypedHeld P h → room P (P.on c) (P.world h) < 65536
  -- fitting is kept and made, and the lengths of the stores stay
  pub keeps_fit : (c : P.Call) (w : P.World) → P.Fine w → fits_held P (P.apart w) ≡ true → fits_held P (P.apart (after P c w)) ≡ true
  pub makes_fit : (m : ℕ) (w : P.World) → said P (P.create m) w ≡ done → fits_held P (P.apart (after P (P.create m) w)) ≡ true
  pub sizes : (c : P.Call) (w : P.World) → SameSizes (P.apart w) (P.apart (after P c w))
