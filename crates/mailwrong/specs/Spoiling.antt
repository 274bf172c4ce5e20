-- Ways to change one thing of our mailbox and leave the rest as it is.
use Rattle.std.specs.Prelude.{ℕ, Bool, false, cond, ◌&&◌, List, eqb}
use Rattle.frame.specs.Frame.{control_of, data_of}
use Rattle.role.specs.declared.Role.{Role}
use Rattle.store.specs.declared.Ring.{Ring}
use Rattle.news.specs.declared.News.{News}
use Rattle.way.specs.declared.Way.{Way}
use Rattle.bus.specs.declared.Bus.{Bus}
use Rattle.answers.specs.Refusals.{first_refusal}
use Rattle.answers.specs.Answers.{Said, done, none, byte, frame, refused, part, cell, lines, is_refusal}
use Rattle.mailstate.specs.declared.State.{State}
use Rattle.mailstate.specs.State.{with_to_bus, with_to_loop, with_talker, with_bus}
use Rattle.mailbox.specs.Calls.{Call, World, world, Did, checks, not_refused, step}
use Rattle.maillaws.specs.Sights.{Direction, to_bus, to_loop, ring_of, news_of, on_frame}

-- what is seen of a call, as an observer sees it
abbrev pub Sight : Type 0
Sight = Call → World → Said → Bool

-- ---- what is done

-- the calls that the test finds are answered by another mailbox
abbrev pub instead : (Call → World → Bool) → (Call → World → Did) → Call → World → Did
instead test other c w = cond (test c w) (other c w) (step c w)

-- where this is seen of what ours does, another thing is done
abbrev pub instead_at : Sight → (Call → World → Did) → Call → World → Did
instead_at seen = instead (λ c w. seen c w (step c w).said)

-- a call that ours does not refuse leaves another world; the change is given the call and the worlds before and after it
abbrev pub leaving : (Call → World → World → World) → Call → World → Did
leaving change c w =
    record {
      said = (step c w).said;
      world = cond (is_refusal (step c w).said) (step c w).world (change c w (step c w).world);
    }

-- a world with the state changed
abbrev pub having : (State → State) → World → World
having change w = world (change w.state) w.tobus w.toloop

-- where this is seen of what ours does, its state is changed; the change is given the state before the call and ours after it
abbrev pub after_sight : Sight → (State → State → State) → Call → World → Did
after_sight seen change = leaving (λ c w v. having (λ s. cond (seen c w (step c w).said) (change w.state s) s) v)

-- a call that ours does not refuse has another answer
abbrev pub answering : (Call → World → Said → Said) → Call → World → Did
answering change c w =
    record {
      said = cond (is_refusal (step c w).said) (step c w).said (change c w (step c w).said);
      world = (step c w).world;
    }

-- it answers so, and nothing is changed
abbrev pub only : Said → World → Did
only a w = record { said = a; world = w }

-- refuses with this number
abbrev pub refusing : ℕ → Call → World → Did
refusing n c w = only (refused n) w

-- never gives the refusal n: does what the call asks for
abbrev pub overlooks : ℕ → Call → World → Did
overlooks n = instead (λ c w. eqb (first_refusal (checks c w)) n) not_refused

-- ---- what is changed

abbrev pub with_way : Direction → Way → State → State
with_way to_bus x s = with_to_bus s x
with_way to_loop x s = with_to_loop s x

-- the ring of a way, and what is told of it
abbrev pub with_ring : Direction → Ring → World → World
with_ring d r w = having (with_way d (record { ring = r; news = news_of d w })) w

abbrev pub with_news : Direction → News → World → World
with_news d n w = having (with_way d (record { ring = ring_of d w; news = n })) w

-- the cells of a way
abbrev pub with_cells : Direction → List ℕ → World → World
with_cells to_bus l w = world w.state l w.toloop
with_cells to_loop l w = world w.state w.tobus l

-- the roles
abbrev pub with_loop_role : Role → State → State
with_loop_role r s = with_talker s (record { role = r; under = s.talker.under })

-- the side to the bus, with one part changed
abbrev pub on_bus : (Bus → Bus) → State → State
on_bus change s = with_bus s (change s.bus)

abbrev pub as_role : Role → Bus → Bus
as_role r b = record { role = r; serial = b.serial; read = b.read; configuring = b.configuring; polled = b.polled; line = b.line }

abbrev pub with_serial : Bool → Bus → Bus
with_serial x b = record { role = b.role; serial = x; read = b.read; configuring = b.configuring; polled = b.polled; line = b.line }

abbrev pub with_read : Bool → Bus → Bus
with_read x b = record { role = b.role; serial = b.serial; read = x; configuring = b.configuring; polled = b.polled; line = b.line }

-- ---- calls and answers

abbrev pub is_command : ℕ → Call → Bool
is_command d = on_frame (λ f. eqb (control_of f) 4 && eqb (data_of f) d) false

-- the lines, and any other answer
abbrev pub of_lines : (ℕ → Said) → Said → Said
of_lines change (lines n) = change n
of_lines change done = done
of_lines change none = none
of_lines change (byte b) = byte b
of_lines change (frame k d) = frame k d
of_lines change (refused n) = refused n
of_lines change (part xs) = part xs
of_lines change (cell n) = cell n
