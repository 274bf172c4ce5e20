-- When a request begins and when it ends, over every call.
use Rattle.std.specs.Prelude.{◌≡◌, Bool, true, false, ◌&&◌, ◌||◌, not, List, [], ◌∷◌}
use Rattle.machine.specs.Course.{of}
use Rattle.machine.specs.Machine.{of_calls}
use Rattle.registers.specs.Bits.{bit}
use Rattle.bridge.specs.Calls.{World}
use Rattle.laws.specs.Bridges.{Law, Saw}
use Rattle.laws.specs.Observers.{any, status_sent, empties}
use Rattle.laws.specs.Worlds.{requested}
use Rattle.laws.specs.Events.{broken, overrun, pressed, bit_of}
use Rattle.laws.specs.StatusTold.{transmit_empty, transmit_not_full, receive_not_empty, receive_full}

-- Registers, what enables a request, each condition with its bit: R01 bits 0 to 3, R02 bit 0, R00 bit 0, R02 bit 2
abbrev pub asking : World → List Bool
asking w =
    (bit 0 w.state.regs.r01 && transmit_empty w)
    ∷ (bit 1 w.state.regs.r01 && transmit_not_full w)
    ∷ (bit 2 w.state.regs.r01 && receive_not_empty w)
    ∷ (bit 3 w.state.regs.r01 && receive_full w)
    ∷ (bit 0 w.state.regs.r02 && bit_of broken w)
    ∷ (bit 0 w.state.regs.r00 && bit_of overrun w)
    ∷ (bit 2 w.state.regs.r02 && bit_of pressed w)
    ∷ []

-- one of these came to hold
unfoldable pub comes : List Bool → List Bool → Bool
comes [] after = false
comes (b ∷ bs) [] = false
comes (b ∷ bs) (a ∷ after) = (a && not b) || comes bs after

-- the request over a call
pub record RequestRight (s : Saw) : Type 0 where
  -- Status byte, a device clear leaves no request; nor does a create or reset
  pub starts : of empties s ≡ true → requested s.after ≡ false
  -- Status byte, a request begins when a condition comes to be enabled and holding, and ends when status is sent
  pub goes : of empties s ≡ false →
      requested s.after ≡ ((requested s.before && not (any (of status_sent s))) || comes (asking s.before) (asking s.after))

-- of every call, in every world
abbrev pub RequestsGo : Law
RequestsGo = of_calls RequestRight
