-- Bridges that forget what happened before it is told, or never forget it, refuted for a break, a lost byte and a key press. Assumes nothing.
use Prim.Native.Nat.{ℕ}
use native.Mathlib.Omega.{arith}
use mathlib.Core.Path.{◌≡◌, refl}
use mathlib.Core.Bool.{true, false, false≢true}
use mathlib.Core.Logic.{◌⊎◌, ⊎_elim}
use mathlib.Core.List.{[], ◌∷◌}
use Rattle.bridge.specs.Calls.{Call, on, line_byte, loop_frame}
use Rattle.laws.specs.Events.{Event, overrun, Stays}
use Rattle.laws.specs.StatusTold.{TellsUntilBack}
use Rattle.laws.specs.Cleared.{Clears}
use Rattle.wrong.specs.Trials.{for_event, full, status_under_way, send_status}
use Rattle.wrong.specs.WrongTelling.{forgetful, clears_though_again, clears_on_any_return, stubborn, takes_for_status, loses_unnoted}
use Rattle.wrong.specs.WrongSends.{swallows_the_point}
use Rattle.wrong.specs.Broken.{Breaks}
use Rattle.wrong.proofs.Computing.{computes}
use Rattle.wrong.proofs.EveryEvent.{of_every, of_none, not_kept, not_told, not_cleared}

abbrev gets : ℕ → Call
gets f = on (loop_frame f)

-- ---- it stays noted

-- it happens, and status is sent
pub forgetful_falls : (e : Event) → Breaks (forgetful e) (Stays e)
unfolding computes of_every of_none
forgetful_falls = not_kept forgetful (for_event full) (gets send_status ∷ []) refl refl refl refl refl

-- status was sent before; it happens, and the status byte comes back
pub clears_though_again_falls : (e : Event) → Breaks (clears_though_again e) (Stays e)
unfolding computes of_every of_none
clears_though_again_falls = not_kept clears_though_again (for_event status_under_way) (gets 47 ∷ []) refl refl refl refl refl

-- it happens, status is sent, and 0,255 comes back, which was not sent
pub takes_for_status_falls : (e : Event) → Breaks (takes_for_status 255) (Stays e)
unfolding computes of_every of_none
takes_for_status_falls = not_kept (λ e. takes_for_status 255) (for_event full) (gets send_status ∷ gets 255 ∷ []) refl refl refl refl refl

-- a byte is lost, it is not noted, and no status byte has come back
lost : (false ≡ true) ⊎ (false ≡ true) → ⊥
lost = ⊎_elim false≢true false≢true

pub loses_unnoted_falls : Breaks loses_unnoted (Stays overrun)
unfolding computes
loses_unnoted_falls law = lost (law (on (line_byte 51)) [] full tt (omega arith) tt refl refl)

pub swallows_the_point_unnoted : Breaks swallows_the_point (Stays overrun)
unfolding computes
swallows_the_point_unnoted law = lost (law (on (line_byte 46)) [] full tt (omega arith) tt refl refl)

-- ---- it is told until it has come back: it happens, status is sent and comes back damaged as 0,0, and status is asked for again

pub forgetful_tells_once : (e : Event) → Breaks (forgetful e) (TellsUntilBack e)
unfolding computes of_every of_none
forgetful_tells_once = not_told forgetful (for_event full) (gets send_status ∷ gets 0 ∷ []) refl refl refl refl refl refl refl

pub clears_on_any_return_falls : (e : Event) → Breaks (clears_on_any_return e) (TellsUntilBack e)
unfolding computes of_every of_none
clears_on_any_return_falls = not_told clears_on_any_return (for_event full) (gets send_status ∷ gets 0 ∷ []) refl refl refl refl refl refl refl

-- ---- it is forgotten when it has come back: it is noted, and the status byte that shows it is sent and comes back unchanged

pub stubborn_falls : (e : Event) → Breaks (stubborn e) (Clears e)
unfolding computes of_every
stubborn_falls = not_cleared stubborn refl refl refl

pub takes_for_status_tells_on : (e : Event) → Breaks (takes_for_status 0) (Clears e)
unfolding computes of_every
takes_for_status_tells_on = not_cleared (λ e. takes_for_status 0) refl refl refl
