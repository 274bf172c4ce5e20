-- The status byte as the loop sees it: what is sent, and that it tells what happened until it has come back.
use Rattle.std.specs.Prelude.{ℕ, ◌+◌, ◌*◌, ◌≡◌, Bool, true, false, cond, ◌&&◌, List, [], ◌∷◌, length, eqb, leb, ltb}
use Rattle.machine.specs.Course.{of, Without}
use Rattle.machine.specs.Machine.{of_calls, of_between}
use Rattle.registers.specs.Bits.{bit}
use Rattle.bridge.specs.Calls.{loop_frame, on, World}
use Rattle.laws.specs.Bridges.{Law}
use Rattle.laws.specs.Observers.{taken, asks_status, status_sent, empties}
use Rattle.laws.specs.Worlds.{held_cells, holds_some, held_for_line, requested}
use Rattle.laws.specs.Events.{Event, broken, overrun, pressed, bit_of, happens}
use Rattle.laws.specs.StatusWay.{sent_and_back}

-- Status byte, the request shows only while R00 bit 3 is on
abbrev pub shows : World → Bool
shows w = bit 3 w.state.regs.r00 && requested w

-- Status byte, bits 0 to 3, by the numbers held and the lengths of the stores
abbrev pub transmit_empty : World → Bool
transmit_empty w = eqb (length (held_for_line w)) 0

abbrev pub transmit_not_full : World → Bool
transmit_not_full w = ltb (length (held_for_line w)) (length w.tx)

abbrev pub receive_not_empty : World → Bool
receive_not_empty w = holds_some w

abbrev pub receive_full : World → Bool
receive_full w = leb (length w.rx) (length (held_cells w))

-- Status byte, first: its bits from 0 to 7
abbrev pub status_bits : World → List Bool
status_bits w =
    transmit_empty w
    ∷ transmit_not_full w
    ∷ receive_not_empty w
    ∷ receive_full w
    ∷ bit_of broken w
    ∷ bit_of overrun w
    ∷ shows w
    ∷ bit_of pressed w
    ∷ []

-- the number with these bits, the lowest first
unfoldable pub number_of : List Bool → ℕ
number_of [] = 0
number_of (b ∷ bs) = cond b 1 0 + 2 * number_of bs

-- Frames, ready 97: the status byte is sent, and shows what held before the call
abbrev pub StatusTold : Law
StatusTold =
    of_calls
    (λ s. (f : ℕ) → s.call ≡ on (loop_frame f) → taken s.answer ≡ true → asks_status s.before.state f ≡ true →
    of status_sent s ≡ number_of (status_bits s.before) ∷ [])

-- what the bits 4, 5 and 7 are place
abbrev pub place : Event → ℕ
place broken = 4
place overrun = 5
place pressed = 7

-- a status byte that shows it was sent
abbrev pub Shows : Event → List ℕ → Type 0
Shows e [] = ⊥
Shows e (g ∷ gs) = bit (place e) g ≡ true

-- demand 3, the overrun bit, as the loop sees it: until a status byte sent after the loss has come back unchanged, every one that is asked
-- for shows it
abbrev pub TellsUntilBack : Event → Law
TellsUntilBack e =
    of_between
    (λ s ss t. of (happens e) s ≡ true → Without empties ss → sent_and_back ss ≡ false → (f : ℕ) → t.call ≡ on (loop_frame f) →
    taken t.answer ≡ true → asks_status t.before.state f ≡ true → Shows e (of status_sent t))
