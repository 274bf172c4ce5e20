-- What is seen of a call from outside: from the call, the world before it and its answer. Nothing here looks at the world after it, and
-- registers are read by their bits and characters.
use Rattle.std.specs.Prelude.{ℕ, Bool, true, false, cond, ◌&&◌, ◌||◌, not, List, [], ◌∷◌, map, eqb, ltb}
use Rattle.frame.specs.Frame.{control_of, data_of, made, is_data, is_end, stripped, same_apart}
use Rattle.registers.specs.Bits.{bit}
use Rattle.role.specs.Role.{addressed, active_data, is_active}
use Rattle.store.specs.Ring.{full}
use Rattle.reading.specs.Received.{Received, a_byte, a_break}
use Rattle.state.specs.declared.State.{State}
use Rattle.answers.specs.Answers.{Said, done, none, byte, frame, refused, part, cell, lines, is_refusal}
use Rattle.loopside.specs.Frames.{device_clear}
use Rattle.laws.specs.Worlds.{holds_some}
use Rattle.bridge.specs.Calls.{OnState, reset, line_break, ask_line_byte, Call, create, show, on, on_state, of_frame, of_line_byte, of_take, of_write, is, World}

-- ---- answers

-- the call was not refused
abbrev pub taken : Said → Bool
taken a = not (is_refusal a)

-- the answer is a frame
abbrev pub is_frame : Said → Bool
is_frame (frame k d) = true
is_frame (refused n) = false
is_frame done = false
is_frame none = false
is_frame (byte b) = false
is_frame (part l) = false
is_frame (cell n) = false
is_frame (lines n) = false

-- the data frame answered, the service bit aside
abbrev pub data_frame : Said → List ℕ
data_frame (frame k d) = cond (ltb k 4) (stripped (made k d) ∷ []) []
data_frame (refused n) = []
data_frame done = []
data_frame none = []
data_frame (byte b) = []
data_frame (part l) = []
data_frame (cell n) = []
data_frame (lines n) = []

-- there is something
abbrev pub any : List ℕ → Bool
any [] = false
any (b ∷ bs) = true

-- ---- calls by their kind: what is seen of the one kind, and nothing of any other call

abbrev pub on_frame : {X : Type 0} → (ℕ → X) → X → Call → X
on_frame see nothing = on_state (of_frame see nothing) nothing

abbrev pub on_line_byte : {X : Type 0} → (ℕ → X) → X → Call → X
on_line_byte see nothing = on_state (of_line_byte see nothing) nothing

abbrev pub on_take : {X : Type 0} → (ℕ → X) → X → Call → X
on_take see nothing = on_state (of_take see nothing) nothing

abbrev pub on_write : {X : Type 0} → (ℕ → ℕ → X) → X → Call → X
on_write see nothing = on_state (of_write see nothing) nothing

-- a call on a state that brings no number
abbrev pub on_one : {X : Type 0} → OnState → X → X → Call → X
on_one d seen nothing = on_state (λ c. cond (is d c) seen nothing) nothing

-- the next line byte is asked for
abbrev pub asks_line_byte : Call → Bool
asks_line_byte c = on_one ask_line_byte true false c

-- ---- frames, by the role before the call

-- Frames, ready 96 and ready 97: asked of an addressed talker that is not active
abbrev pub is_asked : ℕ → State → ℕ → Bool
is_asked d s f = eqb (control_of f) 5 && (eqb (data_of f) d && eqb s.talker.role.phase addressed)

-- Frames, returns: a data frame taken while ours is under way, equal to it but for the service bit
unfoldable pub equal_return : State → ℕ → Bool
equal_return s f = (is_data f && is_active s.talker.role) && same_apart f s.talker.under.frame

-- The reading rule, a send: the answer to ready 96, or to an equal return unless finishing or of status
unfoldable pub is_send : State → ℕ → Bool
is_send s f =
    is_asked 96 s f
    || (equal_return s f && (eqb s.talker.role.phase active_data && not s.talker.under.finishing))

-- Frames, ready 97: the status byte is asked for
unfoldable pub asks_status : State → ℕ → Bool
asks_status s f = is_asked 97 s f

-- Frames, other data frames pass, those that are no return; and so do identify frames
unfoldable pub passes_on : State → ℕ → Bool
passes_on s f = (is_data f && not (is_active s.talker.role)) || ltb 5 (control_of f)

-- ---- line bytes in

-- Holding the line off, first: with R11 bit 3 on, the characters of C04 and C05 are no data
unfoldable pub is_flow : World → ℕ → Bool
is_flow w b = bit 3 w.state.regs.r11 && (eqb b w.state.regs.c04 || eqb b w.state.regs.c05)

-- the data byte that arrives
unfoldable pub arrived : Call → World → Said → List ℕ
arrived c w a = on_line_byte (λ b. cond (taken a && not (is_flow w b)) (b ∷ []) []) [] c

-- Holding the line off, any other byte: stored, or lost exactly when the receive store is full
unfoldable pub accepted : Call → World → Said → List ℕ
accepted c w a = cond (full w.state.rx) [] (arrived c w a)

unfoldable pub lost : Call → World → Said → List ℕ
lost c w a = cond (full w.state.rx) (arrived c w a) []

-- ---- breaks

-- a break is taken
abbrev pub breaks : Call → World → Said → Bool
breaks c w a = on_one line_break (taken a) false c

-- a break is taken while something is held
abbrev pub marks : Call → World → Said → Bool
marks c w a = breaks c w a && holds_some w

-- what is accepted from the line: the byte, or the break, whether anything is held or not
unfoldable pub bytes_and_breaks : Call → World → Said → List Received
bytes_and_breaks c w a = cond (breaks c w a) (a_break ∷ []) (map a_byte (accepted c w a))

-- the same without the breaks that come while nothing is held
unfoldable pub bytes_and_marks : Call → World → Said → List Received
bytes_and_marks c w a = cond (marks c w a) (a_break ∷ []) (map a_byte (accepted c w a))

-- ---- frames out

-- the data frame sent from the receive store: every one out that is neither passed on nor the status byte
unfoldable pub sent : Call → World → Said → List ℕ
sent c w a = on_frame (λ f. cond (passes_on w.state f || asks_status w.state f) [] (data_frame a)) [] c

-- the status byte sent
unfoldable pub status_sent : Call → World → Said → List ℕ
status_sent c w a = on_frame (λ f. cond (asks_status w.state f) (data_frame a) []) [] c

-- ---- loop to line

-- Loop to line, what a listener adds: the byte; for an end byte with R10 bit 2 on, then C02 and C03
abbrev pub adds_for : World → ℕ → List ℕ
adds_for w f = cond (is_end f && bit 2 w.state.regs.r10) (data_of f ∷ w.state.regs.c02 ∷ w.state.regs.c03 ∷ []) (data_of f ∷ [])

-- the line bytes that a frame added
unfoldable pub added : Call → World → Said → List ℕ
added c w a = on_frame (λ f. cond (taken a && (is_data f && w.state.talker.role.listener)) (adds_for w f) []) [] c

-- Holding the line off, last: the character that is owed, C05 where the line is held off, else C04
abbrev pub own_character : World → ℕ
own_character w = cond w.state.line.holding w.state.regs.c05 w.state.regs.c04

-- one is owed where the last that we sent differs from what holds; k is whether the last was stop
abbrev pub owes : Bool → World → Bool
owes k w = (w.state.line.holding && not k) || (k && not w.state.line.holding)

-- a line byte is our own go or stop: one is owed, and it is that character
abbrev pub is_own : World → ℕ → Bool
is_own w b = owes w.state.line.stopped w && eqb b (own_character w)

-- Ask, then take: the line byte handed out is the one taken, our own go and stop aside; an ask hands nothing out, nor does a refused take
unfoldable pub handed_out : Call → World → Said → List ℕ
handed_out c w a = on_take (λ b. cond (taken a) (cond (is_own w b) [] (b ∷ [])) []) [] c

-- ---- calls that begin anew: a refused one is none

-- a create or reset
unfoldable pub restarts : Call → Said → Bool
restarts (create m) a = taken a
restarts (show side) a = false
restarts (on c) a = is reset c && taken a

-- a register write
unfoldable pub writes : Call → Said → Bool
writes c a = on_write (λ n v. taken a) false c

-- a device clear
unfoldable pub clears : Call → World → Said → Bool
clears c w a = on_frame (λ f. taken a && device_clear w.state f) false c

-- demand 3, what a run has none of: create, reset, register write or device clear
abbrev pub changes : Call → World → Said → Bool
changes c w a = restarts c a || (writes c a || clears c w a)

-- Loop to line, last, and demand 3, first, which allows register writes: create, reset or device clear
abbrev pub empties : Call → World → Said → Bool
empties c w a = restarts c a || clears c w a

-- Status byte, the counts: create or reset
abbrev pub starts_anew : Call → World → Said → Bool
starts_anew c w a = restarts c a
