-- Bridges whose ask or take is wrong.
use Rattle.std.specs.Prelude.{ℕ, Bool, true, false, cond, ◌&&◌, not, eqb}
use Rattle.answers.specs.Answers.{Said, done, none, refused, is_byte, byte_in}
use Rattle.state.specs.Conditions.{with_request}
use Rattle.line.specs.Breaks.{break_cells}
use Rattle.bridge.specs.Calls.{ask_line_byte, take_line_byte, Call, on, World, world, Did, misfit, step, ask_answer}
use Rattle.laws.specs.Bridges.{Machine, ByteCall}
use Rattle.laws.specs.Observers.{taken, on_one, asks_line_byte, on_take, owes, own_character}
use Rattle.wrong.specs.Changing.{leaving}
use Rattle.wrong.specs.Seeing.{after_sight, instead_at, only, in_state, with_stopped, as_if_none_owed}

-- ---- asks

-- what a take of the answer to an ask does
abbrev pub takes_asked : World → Did
takes_asked w = step (on (take_line_byte (byte_in (ask_answer w)))) w

-- an ask removes the byte that it says, as giving did
abbrev pub ask_removes : Call → World → Did
ask_removes = leaving (λ c w v. on_one ask_line_byte (takes_asked w).world v c)

-- counts an ask as handed out: its own go or stop is recorded as sent when it is asked for
abbrev pub counts_an_ask : Call → World → Did
counts_an_ask = after_sight (λ c w a. asks_line_byte c) (λ before after. with_stopped after before.line.holding)

-- answers an ask by none where the state does not fit
abbrev pub asks_of_misfit : Call → World → Did
asks_of_misfit = instead_at (λ c w a. asks_line_byte c && (misfit w).given) (λ c w. only none w)

-- refuses an ask where nothing is next
abbrev pub refuses_for_none : Call → World → Did
refuses_for_none = instead_at (λ c w a. asks_line_byte c && (taken a && not (is_byte a))) (λ c w. only (refused 12) w)

-- ---- takes

-- takes any byte: the next one is gone, whatever is named
abbrev pub takes_any_byte : Call → World → Did
takes_any_byte = instead_at (λ c w a. on_take (λ b. true) false c) (λ c w. takes_asked w)

-- a take is done where nothing is next
abbrev pub takes_of_nothing : Call → World → Did
takes_of_nothing = instead_at (λ c w a. on_take (λ b. taken (ask_answer w) && not (is_byte (ask_answer w))) false c) (λ c w. only done w)

-- takes the byte that it holds where its own stop or go has become due: a take acts as if none were owed
abbrev pub takes_held_when_due : Call → World → Did
takes_held_when_due = instead_at (λ c w a. on_take (λ b. owes w.state.line.stopped w) false c) as_if_none_owed

-- takes a data byte for the go or stop that it owes: the byte is gone, and go or stop is recorded as sent
abbrev pub takes_data_for_own : Call → World → Did
takes_data_for_own =
    instead_at (λ c w a. on_take (λ b. owes w.state.line.stopped w && not (eqb b (own_character w))) false c)
    (λ c w. in_state (λ s. with_stopped s s.line.holding) (as_if_none_owed c w))

-- refuses the right byte
abbrev pub refuses_the_next : Call → World → Did
refuses_the_next = instead_at (λ c w a. on_take (λ b. taken a) false c) (λ c w. only (refused 12) w)

-- refuses with 12 where the state does not fit
abbrev pub twelve_before_two : Call → World → Did
twelve_before_two = instead_at (λ c w a. on_take (λ b. (misfit w).given) false c) (λ c w. only (refused 12) w)

-- a take that is refused throws the next byte away
abbrev pub refused_take_removes : Call → World → Did
refused_take_removes = instead_at (λ c w a. on_take (λ b. not (taken a)) false c) (λ c w. only (step c w).said (takes_asked w).world)

-- a take begins no request
abbrev pub take_begins_none : Call → World → Did
take_begins_none = after_sight (λ c w a. on_take (λ b. true) false c) (λ before after. with_request after before.notes.request)

-- a take marks the newest byte from the line, as a break does
abbrev pub take_breaks : Call → World → Did
take_breaks = leaving (λ c w v. world v.state (on_take (λ b. break_cells w.state w.rx) v.rx c) v.tx)

-- ---- it keeps more than a world: its answer to the last ask

pub record Remembered : Type 0 where
  pub world : World
  pub said_last : Said

-- the byte that it said last, where it is not next any more
abbrev pub said_once : ℕ → Remembered → Bool
said_once b o = is_byte o.said_last && (eqb b (byte_in o.said_last) && not (taken (step (on (take_line_byte b)) o.world).said))

abbrev pub takes_what_it_said : Call → Remembered → Did
takes_what_it_said c o = on_take (λ b. cond (said_once b o) (as_if_none_owed c o.world) (step c o.world)) (step c o.world) c

-- goes by what it said and not by what is next: the byte of its last ask is taken though its own stop or go has become due since
abbrev pub goes_by_its_ask : Machine
goes_by_its_ask =
    record {
      Own = Remembered;
      stands = λ o. o.world;
      answer = λ c o. (takes_what_it_said c o).said;
      after = λ c o. record { world = (takes_what_it_said c o).world; said_last = cond (asks_line_byte c) (ask_answer o.world) o.said_last };
      Fine = λ o. Unit {0};
      Fair = ByteCall;
    }
