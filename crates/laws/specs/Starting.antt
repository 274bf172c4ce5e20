-- What create and reset give.
use Rattle.std.specs.Prelude.{ℕ, ◌≡◌, true, false, List, [], ◌∷◌, length}
use Rattle.machine.specs.Course.{of}
use Rattle.machine.specs.Machine.{of_calls, of_between}
use Rattle.registers.specs.declared.Registers.{Registers}
use Rattle.state.specs.declared.State.{State}
use Rattle.state.specs.Sizes.{sizes_obeyed, start_state, fits}
use Rattle.bridge.specs.Calls.{reset, Call, create, show, on, World}
use Rattle.laws.specs.Bridges.{Law}
use Rattle.laws.specs.Observers.{taken, starts_anew}

-- the control registers R00, R01, R02, R10 and R11, then the characters C00 to C05
abbrev pub register_values : Registers → List ℕ
register_values g = g.r00 ∷ g.r01 ∷ g.r02 ∷ g.r10 ∷ g.r11 ∷ g.c00 ∷ g.c01 ∷ g.c02 ∷ g.c03 ∷ g.c04 ∷ g.c05 ∷ []

-- what holds where the bridge starts
pub record Started (w : World) : Type 0 where
  -- its recorded lengths are those of the stores
  pub rx : w.state.rx.cap ≡ length w.rx
  pub tx : w.state.tx.cap ≡ length w.tx
  -- Registers, start
  pub registers : register_values w.state.regs ≡ 0 ∷ 0 ∷ 0 ∷ 0 ∷ 8 ∷ 13 ∷ 10 ∷ 13 ∷ 10 ∷ 17 ∷ 19 ∷ []
  -- Frames, start: address 31, unassigned, and no talker, listener or remote
  pub role : w.state.talker.role ≡ record { address = 31; phase = 0; listener = false }
  pub remote : w.state.remote ≡ record { enabled = false; remote = false }
  -- nothing is held
  pub held : w.state.rx.len ∷ w.state.tx.len ∷ [] ≡ 0 ∷ 0 ∷ []
  -- the line is not held off, our sending is permitted, and go is the last that we sent
  pub line : w.state.line ≡ record { holding = false; forbidden = false; stopped = false }
  -- nothing happened and nothing is requested
  pub seen : w.state.notes.seen ≡ record { brk = false; overrun = false; key = false }
  pub request : w.state.notes.request ≡ false
  -- Status byte, the counts, from 0
  pub counts : w.state.counts ≡ record { stored = 0; lost = 0; sent = 0 }

-- the margin that a create is given, and that a reset has
abbrev pub margin_of : Call → World → ℕ
margin_of (create m) w = m
margin_of (show side) w = w.state.margin
margin_of (on c) w = w.state.margin

-- after every create or reset that is not refused
abbrev pub StartsSo : Law
StartsSo = of_calls (λ s. of starts_anew s ≡ true → Started s.after)

-- create records the margin that it was given, and reset keeps it
abbrev pub MarginRecorded : Law
MarginRecorded = of_calls (λ s. of starts_anew s ≡ true → s.after.state.margin ≡ margin_of s.call s.before)

-- the sizes that a state records: the margin, and the capacities of the stores
abbrev pub recorded : State → List ℕ
recorded s = s.margin ∷ s.rx.cap ∷ s.tx.cap ∷ []

-- and no other call changes the sizes that are recorded, the margin among them
abbrev pub SizesStay : Law
SizesStay = of_calls (λ s. of starts_anew s ≡ false → recorded s.after.state ≡ recorded s.before.state)

-- Sizes and refusals, reset: it gives what create gives for the same sizes and margin, so a create right after it changes no state
abbrev pub ResetGivesStart : Law
ResetGivesStart =
    of_between
    (λ s ss t. s.call ≡ on reset → taken s.answer ≡ true → ss ≡ [] →
    t.call ≡ create s.after.state.margin → taken t.answer ≡ true → t.after.state ≡ s.after.state)

-- a refused create gives no state, and what the definition `unmade` has in the place of one fits no stores
abbrev pub RefusedCreateFitsNothing : Type 0
RefusedCreateFitsNothing = (m a b : ℕ) → sizes_obeyed m a b ≡ false → (x y : ℕ) → fits (start_state m a b) x y ≡ false
