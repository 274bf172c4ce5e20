-- Demand 3 of every run, and what demand 1 says of its calls.
use Rattle.std.specs.Prelude.{ℕ, ◌<◌, ◌≡◌, Bool, true, false, ◌&&◌, List, [], ◌++◌, ltb}
use Rattle.machine.specs.Course.{all, Without}
use Rattle.machine.specs.Machine.{of_calls, of_runs}
use Rattle.machine.specs.Turns.{Reading, Kept}
use Rattle.bridge.specs.Calls.{Call, on, loop_frame, World}
use Rattle.answers.specs.Answers.{Said, done, none, byte, frame, refused, part, cell, lines}
use Rattle.reading.specs.Received.{Received}
use Rattle.laws.specs.ByRules.{Ruled, all_ruled, by_rules, by_rules_alone}
use Rattle.laws.specs.Observers.{taken, is_frame, bytes_and_breaks, bytes_and_marks, lost, sent, changes, empties}
use Rattle.laws.specs.Spells.{spells, AtMost}
use Rattle.laws.specs.Bridges.{Law, Saw}
use Rattle.laws.specs.Worlds.{held_to_send, rule_in, room, protocol, holds_off}
use Rattle.laws.specs.Events.{overrun, Stays}

-- ---- demand 1, for the calls of a run

-- demand 1: a refused call leaves the state and both stores alone
abbrev pub RefusedStays : Law
RefusedStays = of_calls (λ s. taken s.answer ≡ false → s.after ≡ s.before)

-- Frames, first: one frame out for each that is taken
abbrev pub OneFrameOut : Law
OneFrameOut = of_calls (λ s. (f : ℕ) → s.call ≡ on (loop_frame f) → taken s.answer ≡ true → is_frame s.answer ≡ true)

-- Frames, first: a frame is 11 bits, three control bits above eight data bits
abbrev pub is_eleven : Said → Bool
is_eleven (frame k d) = ltb k 8 && ltb d 256
is_eleven (refused n) = true
is_eleven done = true
is_eleven none = true
is_eleven (byte b) = true
is_eleven (part xs) = true
is_eleven (cell n) = true
is_eleven (lines n) = true

-- of every frame out
abbrev pub ElevenBits : Law
ElevenBits = of_calls (λ s. is_eleven s.answer ≡ true)

-- ---- demand 3

-- what is seen, each byte and break with the rule before the call; RegistersGo says that no call that accepts one changes it
abbrev pub by_its_rule : (Call → World → Said → List Received) → Call → World → Said → List Ruled
by_its_rule see c w a = all_ruled (rule_in w) (see c w a)

-- what is held, with the rule of the moment; that each was accepted under it, RuleStays says, and RegistersGo of the call that accepted it
abbrev pub held_by_the_rule : World → List Ruled
held_by_the_rule w = all_ruled (rule_in w) (held_to_send w)

-- the receive side: bytes and breaks are accepted and held, frames are read from them, by the rule of each
abbrev pub line_to_loop : Reading World Call Said Ruled ℕ
line_to_loop = record { accepted = by_its_rule bytes_and_breaks; sent = sent; held = held_by_the_rule; reads = λ w. by_rules }

-- first: in a run without create, reset and device clear, the frames sent and then those of the bytes and breaks still held are together those of
-- all there were, held at first and then accepted, also of the breaks that came while nothing was held; the service bit aside. Registers may be
-- written: what was accepted is read by the rule that was in force then, and what was held at first by the rule of the start
abbrev pub FramesRead : Law
FramesRead = Kept line_to_loop empties

-- all that there was in a run, those seen so among it
abbrev pub all_there_was : (Call → World → Said → List Received) → World → List Saw → List Ruled
all_there_was see w ss = held_by_the_rule w ++ all (by_its_rule see) ss

-- where the rule changes nothing waits for more: all that there was reads the same without a wall there
abbrev pub NothingWaits : Law
NothingWaits = of_runs (λ w ss. Without empties ss → by_rules (all_there_was bytes_and_breaks w ss) ≡ by_rules_alone (all_there_was bytes_and_breaks w ss))

-- a break that comes while nothing is held changes no frame: all that there was reads the same without it
abbrev pub UnheldBreaks : Law
UnheldBreaks = of_runs (λ w ss. Without empties ss → by_rules (all_there_was bytes_and_breaks w ss) ≡ by_rules (all_there_was bytes_and_marks w ss))

-- second: after a loss the overrun bit stays until a status byte that was sent later is back unchanged; also where registers are written
abbrev pub OverrunStays : Law
OverrunStays = Stays overrun

-- third: no byte is lost in a run that begins with the protocol on, the line not held off and more room than the margin, where in each
-- spell of holding off no more data bytes arrive than the margin
abbrev pub NoneLost : Law
NoneLost =
    of_runs
    (λ w ss. Without changes ss → protocol w ≡ true → holds_off w ≡ false → w.state.margin < room w →
    AtMost w.state.margin (spells 0 w ss) → all lost ss ≡ [])
