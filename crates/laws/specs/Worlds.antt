-- What a world holds, and how it is read: by the numbers held, the lengths of the stores and the registers' bits and characters.
use Rattle.std.specs.Prelude.{ℕ, ◌-◌, Bool, List, ltb, length}
use Rattle.registers.specs.Bits.{bit}
use Rattle.store.specs.Ring.{held}
use Rattle.reading.specs.declared.Rule.{Rule}
use Rattle.reading.specs.Reading.{frames}
use Rattle.reading.specs.Received.{Received, received_in}
use Rattle.reading.specs.Steps.{cut}
use Rattle.bridge.specs.Calls.{World}

-- the cells held in the receive store
abbrev pub held_cells : World → List ℕ
held_cells w = held w.rx w.state.rx

-- something is held there
abbrev pub holds_some : World → Bool
holds_some w = ltb 0 (length (held_cells w))

-- demand 3, what is held to be sent on the loop: bytes, and the breaks among them
abbrev pub held_to_send : World → List Received
held_to_send w = received_in (held_cells w)

-- Loop to line, the bytes held for the line
abbrev pub held_for_line : World → List ℕ
held_for_line w = held w.tx w.state.tx

-- The reading rule, first: on by R10 bit 3, with C00 and C01
abbrev pub rule_in : World → Rule
rule_in w = record { on = bit 3 w.state.regs.r10; c00 = w.state.regs.c00; c01 = w.state.regs.c01 }

-- demand 3, what the reading rule gives
abbrev pub reading : World → List Received → List ℕ
reading w = frames (cut (rule_in w))

-- how many cells of the receive store are free
abbrev pub room : World → ℕ
room w = w.state.rx.cap - w.state.rx.len

-- Holding the line off: R11 bit 3
abbrev pub protocol : World → Bool
protocol w = bit 3 w.state.regs.r11

-- the line is held off
abbrev pub holds_off : World → Bool
holds_off w = w.state.line.holding

-- our sending to the line is forbidden
abbrev pub forbidden : World → Bool
forbidden w = w.state.line.forbidden

-- a request has begun and not ended, whether it shows or not
abbrev pub requested : World → Bool
requested w = w.state.notes.request
