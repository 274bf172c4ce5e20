-- What a product has to be for its C functions to be what they promise: worlds and calls come apart, and every call refuses by its checks alone.
use Rattle.std.specs.Prelude.{ℕ, ◌≡◌, true, false, List}
use Rattle.answers.specs.Answers.{part, is_refusal}
use Rattle.answers.specs.Word.{value_of}
use Rattle.answers.specs.Refusals.{first_refusal}
use Rattle.answers.specs.Refusing.{Refuses}
use Rattle.store.specs.Ring.{Fit}
use Rattle.boundary.specs.Product.{Product, Held, held, creating, showing, calling, call_of, fits_held, shown, checks, said, room, after}

-- a create in two worlds with the same stores answers the same, and makes the same where it is done
pub record MadeAlike (P : Product) (m : ℕ) (w v : P.World) : Type 0 where
  pub answer : said P (P.create m) w ≡ said P (P.create m) v
  pub made : is_refusal (said P (P.create m) w) ≡ false → after P (P.create m) w ≡ after P (P.create m) v

pub record Formed (P : Product) : Type 0 where
  -- a world is its state and its stores, and there are calls of three kinds
  pub there : (w : P.World) → P.world (P.apart w) ≡ w
  pub back : (h : Held P.State) → P.apart (P.world h) ≡ h
  pub named : (c : P.Call) → call_of P (P.kind c) ≡ c
  pub created : (m : ℕ) → P.kind (P.create m) ≡ creating m
  pub showed : (side : P.Side) → P.kind (P.show side) ≡ showing side
  pub called : (c : P.OnState) → P.kind (P.on c) ≡ calling c
  -- what stands for no state fits no stores, and of a state that fits both rings do
  pub misfits : (m n : ℕ) → P.fits P.no_state m n ≡ false
  pub first : (h : Held P.State) → fits_held P h ≡ true → Fit h.first (P.first_ring h.state)
  pub second : (h : Held P.State) → fits_held P h ≡ true → Fit h.second (P.second_ring h.state)
  -- a call refuses exactly by the first of its checks that is given
  pub refuses : (c : P.Call) (w : P.World) → Refuses (said P c w) (after P c w) (first_refusal (checks P (P.kind c) (P.apart w))) w
  -- showing hands out the part that is shown and leaves all as it was; create looks at no state
  pub shows : (side : P.Side) (w : P.World) → said P (P.show side) w ≡ part (shown P side (P.apart w))
  pub looks : (side : P.Side) (w : P.World) → after P (P.show side) w ≡ w
  pub creates : (m : ℕ) (s t : P.State) (xs ys : List ℕ) → MadeAlike P m (P.world (held s xs ys)) (P.world (held t xs ys))
  -- a refusal is its number alone, without any room; showing and create tell none at all
  pub alone : (c : P.Call) (w : P.World) → is_refusal (said P c w) ≡ true → room P c w ≡ 0
  pub shows_alone : (side : P.Side) (w : P.World) → room P (P.show side) w ≡ 0
  pub creates_alone : (m : ℕ) (w : P.World) → room P (P.create m) w ≡ 0
  -- the answer that kind 2 makes of a value has that value
  pub valued : (n : ℕ) → value_of (P.given n) ≡ n
