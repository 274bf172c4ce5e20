-- What permits and forbids our sending to the line, over every call, and the next line byte: what is asked for and what is taken.
use Rattle.std.specs.Prelude.{ℕ, eqb, ◌≡◌, Bool, false, cond, ◌&&◌, List, [], ◌∷◌}
use Rattle.machine.specs.Course.{of}
use Rattle.machine.specs.Machine.{of_calls}
use Rattle.answers.specs.Answers.{Said, done, none, byte, refused}
use Rattle.bridge.specs.Calls.{ask_line_byte, take_line_byte, Call, on, World}
use Rattle.laws.specs.Bridges.{Law, Saw}
use Rattle.laws.specs.Fitting.{Fits}
use Rattle.laws.specs.Observers.{taken, on_line_byte, is_flow, owes, own_character, empties}
use Rattle.laws.specs.Worlds.{held_for_line, forbidden}
use Rattle.laws.specs.Holding.{writes_r11}

-- Holding the line off, first: with R11 bit 3 on, C04 permits and C05 forbids our sending; k is whether it was forbidden before
unfoldable pub after_byte : Bool → Call → World → Said → Bool
after_byte k c w a = on_line_byte (λ b. cond (taken a && is_flow w b) (eqb b w.state.regs.c05) k) k c

-- whether our sending is forbidden after a call, by what is seen of it and what held before it
unfoldable pub forbidden_after : Call → World → Said → Bool
forbidden_after c w a =
    -- Frames, device clear: the other end's stop ends, and so at a create or reset
    cond (empties c w a) false
    -- Registers, last: writing R11 lets our sending start again
    (cond (writes_r11 c a) false
    (after_byte (forbidden w) c w a))

-- of every call, in every world
abbrev pub ForbiddenGoes : Law
ForbiddenGoes = of_calls (λ s. forbidden s.after ≡ of forbidden_after s)

-- the oldest byte held; Sizes and refusals: none where there is none
abbrev pub oldest_of : List ℕ → Said
oldest_of [] = none
oldest_of (b ∷ bs) = byte b

-- the next line byte
unfoldable pub next_byte : World → Said
next_byte w =
    -- Holding the line off, last: our own character where one is owed, before all else
    cond (owes w.state.line.stopped w) (byte (own_character w))
    -- none while the other end forbids our sending
    (cond (forbidden w) none
    (oldest_of (held_for_line w)))

-- ---- what is asked for and what is taken

-- an ask answers it, where the state fits
pub record AskedRight (s : Saw) : Type 0 where
  pub fit : Fits s.before → s.answer ≡ next_byte s.before
  pub misfit : (Fits s.before → ⊥) → s.answer ≡ refused 2

-- of every ask, in every world
abbrev pub NextAsked : Law
NextAsked = of_calls (λ s. s.call ≡ on ask_line_byte → AskedRight s)

-- a take that names the byte b
pub record TakenRight (s : Saw) (b : ℕ) : Type 0 where
  -- the next line byte is taken, where the state fits
  pub next : Fits s.before → next_byte s.before ≡ byte b → s.answer ≡ done
  -- any other is refused with 12, also where there is none
  pub other : Fits s.before → (next_byte s.before ≡ byte b → ⊥) → s.answer ≡ refused 12
  -- and changes nothing, in any world
  pub stays : (next_byte s.before ≡ byte b → ⊥) → s.after ≡ s.before
  -- 2 is checked before 12
  pub misfit : (Fits s.before → ⊥) → s.answer ≡ refused 2

-- of every take, in every world
abbrev pub TakesNext : Law
TakesNext = of_calls (λ s. (b : ℕ) → s.call ≡ on (take_line_byte b) → TakenRight s b)
