-- Loop to line: what a listener adds to the transmit store.
use Rattle.std.specs.Prelude.{◌≡◌, ℕ, Bool, cond, ◌&&◌, List, [], ◌∷◌, length, nat_lt}
use Rattle.frame.specs.Frame.{data_of, is_data, is_end}
use Rattle.registers.specs.declared.Registers.{Registers}
use Rattle.registers.specs.Meanings.{end_inserted}
use Rattle.store.specs.Ring.{Within, room, puts_ring, puts_bytes}
use Rattle.state.specs.declared.State.{State}
use Rattle.state.specs.State.{with_tx}

-- Loop to line, first: the byte, and behind an end byte the two end characters where R10 bit 2 has them inserted
unfoldable pub adds : Registers → ℕ → List ℕ
adds g f = cond (is_end f && end_inserted g) (data_of f ∷ g.c02 ∷ g.c03 ∷ []) (data_of f ∷ [])

-- Sizes and refusals, 4: what a listener would add has no room
unfoldable pub busy : State → ℕ → Bool
busy s f = (s.talker.role.listener && is_data f) && nat_lt (room s.tx) (length (adds s.regs f))

-- Loop to line, second: the transmit store with all that a data frame adds; `busy` refuses what does not fit
unfoldable pub added_state : State → ℕ → State
added_state s f = with_tx s (puts_ring s.tx (adds s.regs f))

unfoldable pub added_bytes : State → List ℕ → ℕ → List ℕ
added_bytes s tx f = puts_bytes tx s.tx (adds s.regs f)

-- the state and the transmit store after a data frame that a listener stores
pub record Added (s : State) (tx : List ℕ) (f : ℕ) (tx' : List ℕ) (t : State) : Type 0 where
  pub state : t ≡ added_state s f
  pub within : Within t.tx
  pub bytes : tx' ≡ added_bytes s tx f
  pub size : length tx' ≡ length tx
