-- Returns on the loop: what answers the data frame that comes back, judged by the frame that was answered before it. What the mailbox itself
-- records of the frame under way is not consulted.
use Rattle.std.specs.Prelude.{ℕ, ◌≡◌, Bool, true, false, cond, ◌&&◌, ◌||◌, List, [], ◌∷◌, eqb, ltb}
use Rattle.machine.specs.Course.{of, some, Without}
use Rattle.machine.specs.Machine.{of_between}
use Rattle.frame.specs.Frame.{control_of, data_of, made, is_data, same_apart}
use Rattle.answers.specs.Answers.{Said, frame}
use Rattle.mailbox.specs.Calls.{loop_frame, Call, on, World}
use Rattle.maillaws.specs.Mailboxes.{Law, Saw}
use Rattle.maillaws.specs.Sights.{to_loop, waits, any, taken, of_frame_said, data_cell, on_frame, loop_active, fetched}
use Rattle.maillaws.specs.NewsTold.{ends_way}
use Rattle.maillaws.specs.LoopRole.{asks_frames}
use Rattle.maillaws.specs.Giving.{first_of}

-- Not ready for data went on as it was; where a frame is held back, that frame goes on in its place
unfoldable pub finishes : Call → World → Said → Bool
finishes c w a = on_frame (λ f. eqb f (made 5 66) && of_frame_said (λ k d. eqb k 5 && eqb d 66) false a) false c

-- the data frame answered
abbrev pub data_frame : Said → List ℕ
data_frame = of_frame_said (λ k d. cond (ltb k 4) (made k d ∷ []) []) []

-- what asks for our status, and what asks for our data or an ID: a ready frame, or a return
abbrev pub asks_own : Bool → World → ℕ → Bool
asks_own status w f = cond status (eqb f (made 5 97)) ((eqb (control_of f) 5 && asks_frames (data_of f)) || (is_data f && loop_active w))

-- a frame of ours: the status byte where k holds, else one from the way to the loop or of an ID
unfoldable pub own_frame : Bool → Call → World → Said → List ℕ
own_frame k c w a = on_frame (λ f. cond (asks_own k w f) (data_frame a) []) [] c

-- the frame g of ours, sent by the call s, is answered on the loop with r; k is whether g was status, e whether not ready for data came in between
pub record Judged (g r : ℕ) (k e : Bool) (s t : Saw) : Type 0 where
  -- unequal apart from the service bit gives 5,65
  pub damaged : same_apart r g ≡ false → t.answer ≡ frame 5 65
  -- equal gives 5,64 where it was status or the last
  pub ended : same_apart r g ≡ true → (k || e) ≡ true → t.answer ≡ frame 5 64
  -- and else, where g came from the way to the loop, the oldest that waits there, or 5,64 where nothing does
  pub next : same_apart r g ≡ true → (k || e) ≡ false → any (of (fetched to_loop) s) ≡ true →
      (data_cell t.answer ≡ first_of (waits to_loop t.before)) × (waits to_loop t.before ≡ [] → t.answer ≡ frame 5 64)

-- of every frame of ours, and the first data frame after it, where no command, create or reset comes in between
abbrev pub ReturnsJudged : Law
ReturnsJudged =
    of_between
    (λ s ss t. (k : Bool) (g r : ℕ) → of (own_frame k) s ≡ g ∷ [] → Without ends_way ss → t.call ≡ on (loop_frame r) → is_data r ≡ true →
    taken t.answer ≡ true → Judged g r k (some finishes ss) s t)
