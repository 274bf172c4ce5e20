-- Our bridge tells the room that there is. Assumes nothing.
use Prim.Native.Nat.{ℕ}
use mathlib.Core.Path.{◌≡◌, refl, sym, ◌∙◌}
use mathlib.Core.Bool.{true, cond, not, false≢true}
use mathlib.Core.List.{List}
use Rattle.machine.specs.Machine.{Obeys}
use Rattle.answers.specs.Answers.{is_refusal}
use Rattle.answers.specs.Refusals.{first_refusal}
use Rattle.store.specs.declared.Ring.{Ring}
use Rattle.store.specs.Ring.{Fit, held, room}
use Rattle.store.proofs.Promises.{held_length}
use Rattle.state.proofs.Fits.{rx_fits, tx_fits}
use Rattle.bridge.specs.Calls.{OnState, reset, write, line_byte, line_break, key, ask_line_byte, take_line_byte, loop_frame, Call, create, show, on}
use Rattle.bridge.specs.Calls.{World, Did, checks, not_refused, room_of, step}
use Rattle.laws.specs.Bridges.{telling}
use Rattle.laws.specs.Fitting.{Fits}
use Rattle.laws.specs.Observers.{taken}
use Rattle.laws.specs.Rooms.{free, room_there, RoomTold}
use Rattle.laws.proofs.Answers.{accepted}
use Rattle.laws.proofs.Fitting.{state_good}
use Rattle.laws.proofs.Refusing.{by_refusal, fitting}

-- the places that a ring leaves free are those of its list
free_room : (s : List ℕ) (r : Ring) → Fit s r → room r ≡ free s (held s r)
free_room s r f = rw (held_length s r f, f.cap)

-- in a world that fits, what is told is the room there is
room_there_lem : (c : OnState) (v : World) → Fits v → room_of c v.state ≡ room_there v (on c)
unfolding room_of
room_there_lem (line_byte b) v e = free_room v.rx v.state.rx (rx_fits v.state v.rx v.tx e).ring
room_there_lem (loop_frame f) v e = free_room v.tx v.state.tx (tx_fits v.state v.rx v.tx e).ring
room_there_lem reset v e = refl
room_there_lem (write n x) v e = refl
room_there_lem line_break v e = refl
room_there_lem key v e = refl
room_there_lem ask_line_byte v e = refl
room_there_lem (take_line_byte b) v e = refl

-- of a call that is not refused
module _ (w : World) where
  told_there : (c : Call) → first_refusal (checks c w) ≡ 0 → (not_refused c w).room ≡ room_there (not_refused c w).world c
  unfolding not_refused
  told_there (create m) h = refl
  told_there (show side) h = refl
  told_there (on c) h = room_there_lem c (not_refused (on c) w).world (state_good w (fitting c w h).0 c h)

pub room_told : Obeys (telling step) RoomTold
room_told c w _ =
    by_refusal (λ (d : Did). d.room ≡ cond (not (is_refusal d.said)) (room_there d.world c) 0) c w
    (λ h. told_there w c h ∙ sym (rw (accepted c w).taken)) (λ _. refl)

-- a call that is taken tells the room of the state that it leaves
pub told_after : (c : OnState) (w : World) → taken (step (on c) w).said ≡ true → (step (on c) w).room ≡ room_of c (step (on c) w).world.state
told_after c w =
    by_refusal (λ (d : Did). taken d.said ≡ true → d.room ≡ room_of c d.world.state) (on c) w
    (λ _ _. unfold not_refused in refl) (λ _ h. absurd (false≢true h))
