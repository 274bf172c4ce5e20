-- What is seen alike, whichever way a test goes and of whatever kind a call is. Assumes nothing.
use mathlib.Core.Path.{◌≡◌, refl}
use mathlib.Core.Bool.{Bool, true, false, cond}
use Rattle.bridge.specs.Calls.{reset, write, line_byte, line_break, key, ask_line_byte, take_line_byte, loop_frame, Call, create, show, on}
use Rattle.laws.specs.Observers.{on_frame, on_write}

-- a test that changes nothing
pub same_either : {A : Type 0} (t : Bool) (x : A) → cond t x x ≡ x
same_either true x = refl
same_either false x = refl

-- a frame, or a register write, of which the same is seen as of all other calls
pub same_kind : {A : Type 0} (x : A) (c : Call) → (on_frame (λ f. x) x c ≡ x) × (on_write (λ n v. x) x c ≡ x)
same_kind x (create m) = (refl, refl)
same_kind x (show side) = (refl, refl)
same_kind x (on reset) = (refl, refl)
same_kind x (on (write n v)) = (refl, refl)
same_kind x (on (line_byte b)) = (refl, refl)
same_kind x (on line_break) = (refl, refl)
same_kind x (on key) = (refl, refl)
same_kind x (on ask_line_byte) = (refl, refl)
same_kind x (on (take_line_byte b)) = (refl, refl)
same_kind x (on (loop_frame f)) = (refl, refl)
