-- Bridges by which a wrong byte goes to the line, or one at the wrong time.
use Rattle.std.specs.Prelude.{ℕ, ◌-◌, Bool, true, false, cond, ◌&&◌, not, List, [], ◌∷◌, eqb, ltb, length}
use Rattle.registers.specs.Meanings.{protocol_on}
use Rattle.answers.specs.Answers.{none}
use Rattle.state.specs.State.{with_tx}
use Rattle.bridge.specs.Calls.{ask_line_byte, Call, World, Did, step}
use Rattle.laws.specs.Observers.{on_one, on_take, added, handed_out, owes, clears}
use Rattle.laws.specs.Worlds.{protocol, forbidden}
use Rattle.laws.specs.Holding.{writes_r11}
use Rattle.wrong.specs.Seeing.{Sight, after_sight, instead_at, always, having, in_state, with_forbidden, with_stopped, as_if_none_owed}
use Rattle.wrong.specs.Changing.{answering}

-- still holds a line byte that is taken
abbrev pub stuttering : Call → World → Did
stuttering = after_sight (λ c w a. on_take (λ b. true) false c) (λ before after. with_tx after before.tx)

-- leaves out C03 behind an end byte
abbrev pub leaves_out_c03 : Call → World → Did
leaves_out_c03 =
    after_sight (λ c w a. ltb 1 (length (added c w a)))
    (λ before after. with_tx after (record { cap = after.tx.cap; oldest = after.tx.oldest; len = after.tx.len - 1 }))

-- the byte handed out is the stop character, and no character of our own
abbrev pub is_stop_byte : World → List ℕ → Bool
is_stop_byte w [] = false
is_stop_byte w (b ∷ bs) = eqb b w.state.regs.c05

-- takes a data byte equal to stop for its own character
abbrev pub takes_data_for_stop : Call → World → Did
takes_data_for_stop = after_sight (λ c w a. is_stop_byte w (handed_out c w a)) (λ before after. with_stopped after true)

-- never records which of go and stop it sent, at a reset neither
abbrev pub never_records_sent : Call → World → Did
never_records_sent = after_sight always (λ before after. with_stopped after before.line.stopped)

-- Slips we have seen, the last: when R11 bit 3 is written off it forgets that stop was the last it sent, and owes no go
abbrev pub switch_off_drops_go : Call → World → Did
switch_off_drops_go = after_sight (λ c w a. writes_r11 c a) (λ before after. cond (protocol_on after.regs) after (with_stopped after false))

-- the next line byte is asked for, or a line byte is taken
abbrev pub of_next : Call → Bool
of_next c = on_one ask_line_byte true (on_take (λ b. true) false c) c

-- the same while a character of our own is owed
abbrev pub owes_own : Sight
owes_own c w a = of_next c && owes w.state.line.stopped w

-- the slip of `switch_off_drops_go` in another way: knows that it owes go or stop, and says none while the protocol is off
abbrev pub withholds_go_when_off : Call → World → Did
withholds_go_when_off = answering (λ c w a. on_one ask_line_byte (cond (not (protocol w) && owes w.state.line.stopped w) none a) a c)

-- what it holds goes before its own go or stop: it acts as if none were owed
abbrev pub data_before_own : Call → World → Did
data_before_own = instead_at owes_own as_if_none_owed

-- a byte goes while the other end forbids it
abbrev pub goes_while_forbidden : Call → World → Did
goes_while_forbidden =
    instead_at (λ c w a. of_next c && forbidden w)
    (λ c w. in_state (λ s. with_forbidden s true) (step c (having (λ s. with_forbidden s false) w)))

-- its own go or stop waits too while the other end forbids our sending: an ask says none
abbrev pub own_waits_while_forbidden : Call → World → Did
own_waits_while_forbidden = answering (λ c w a. on_one ask_line_byte (cond (forbidden w) none a) a c)

-- keeps the other end's stop at a device clear
abbrev pub clear_keeps_forbidden : Call → World → Did
clear_keeps_forbidden = after_sight clears (λ before after. with_forbidden after before.line.forbidden)

-- keeps the other end's stop when R11 is written
abbrev pub write_keeps_forbidden : Call → World → Did
write_keeps_forbidden = after_sight (λ c w a. writes_r11 c a) (λ before after. with_forbidden after before.line.forbidden)
