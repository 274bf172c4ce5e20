-- When holding off begins and when it ends, over every call.
use Rattle.std.specs.Prelude.{◌*◌, eqb, leb, ◌≡◌, Bool, false, cond, ◌&&◌, ◌||◌, not}
use Rattle.machine.specs.Course.{of}
use Rattle.machine.specs.Machine.{of_calls}
use Rattle.answers.specs.Answers.{Said}
use Rattle.bridge.specs.Calls.{Call, World}
use Rattle.laws.specs.Bridges.{Law}
use Rattle.laws.specs.Observers.{any, taken, on_frame, on_write, is_send, accepted, empties}
use Rattle.laws.specs.Worlds.{room, protocol, holds_off}

-- a send, of a frame or of none
unfoldable pub sends : Call → World → Said → Bool
sends c w a = on_frame (λ f. taken a && is_send w.state f) false c

-- Registers, last: writing R11
abbrev pub writes_r11 : Call → Said → Bool
writes_r11 c a = on_write (λ n v. taken a && eqb n 11) false c

-- whether the line is held off after a call, by what is seen of it, what held before it and the room that it left
unfoldable pub holding_after : Call → World → Said → World → Bool
holding_after c w a v =
    cond (empties c w a) false
    -- Holding the line off: it begins, with R11 bit 3 on, when a stored byte leaves m free or fewer
    (cond (any (accepted c w a)) (holds_off w || (protocol w && leb (room v) w.state.margin))
    -- it ends when a send leaves 2m free or more
    (cond (sends c w a) (holds_off w && not (leb (2 * w.state.margin) (room v)))
    -- writing R11 sets it afresh
    (cond (writes_r11 c a) (protocol v && leb (room w) w.state.margin)
    (holds_off w))))

-- of every call, in every world
abbrev pub HoldingGoes : Law
HoldingGoes = of_calls (λ s. holds_off s.after ≡ of holding_after s s.after)
