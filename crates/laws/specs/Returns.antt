-- Frames, returns: what answers the data frame that comes back, judged by the frame that was answered before it. The bridge's own record of
-- the frame under way is not consulted.
use Rattle.std.specs.Prelude.{ℕ, ◌≡◌, Bool, true, false, cond, ◌&&◌, ◌||◌, List, [], ◌∷◌, eqb}
use Rattle.machine.specs.Course.{of, some, Without}
use Rattle.machine.specs.Machine.{of_between}
use Rattle.frame.specs.Frame.{made, is_data, same_apart}
use Rattle.answers.specs.Answers.{Said, frame}
use Rattle.bridge.specs.Calls.{loop_frame, Call, on, World}
use Rattle.laws.specs.Bridges.{Law, Saw}
use Rattle.laws.specs.Observers.{taken, on_frame, sent, status_sent}
use Rattle.laws.specs.StatusWay.{ends_way}
use Rattle.laws.specs.SendRule.{SendsFirst}

-- Frames, ready 66: it was taken
unfoldable pub finishes : Call → World → Said → Bool
finishes c w a = on_frame (λ f. taken a && eqb f (made 5 66)) false c

-- a frame of ours, the status byte where k holds, else one from the receive store
abbrev pub own_frame : Bool → Call → World → Said → List ℕ
own_frame k c w a = cond k (status_sent c w a) (sent c w a)

-- the frame g of ours is answered by the loop with r; k is whether g was status, e whether ready 66 came in between
pub record Judged (g r : ℕ) (k e : Bool) (s : Saw) : Type 0 where
  -- unequal gives 5,65
  pub damaged : same_apart r g ≡ false → s.answer ≡ frame 5 65
  -- equal gives 5,64 if it was status or finishing
  pub ended : same_apart r g ≡ true → (k || e) ≡ true → s.answer ≡ frame 5 64
  -- and else the next frame, or 5,64 if none
  pub next : same_apart r g ≡ true → (k || e) ≡ false → SendsFirst s

-- of every frame of ours, and the first data frame after it, where no command, create or reset comes in between
abbrev pub ReturnsJudged : Law
ReturnsJudged =
    of_between
    (λ s ss t. (k : Bool) (g r : ℕ) → of (own_frame k) s ≡ g ∷ [] → Without (λ c w a. ends_way c a) ss → t.call ≡ on (loop_frame r) →
    is_data r ≡ true → taken t.answer ≡ true → Judged g r k (some finishes ss) t)
