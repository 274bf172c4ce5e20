-- Bridges that take a break wrongly, or read over it.
use Rattle.std.specs.Prelude.{ℕ, ◌+◌, ◌-◌, ◌*◌, ◌/◌, ◌%◌, Bool, true, false, cond, ◌&&◌, not, List, [], ◌∷◌, map, eqb, leb, length}
use Rattle.store.specs.Ring.{empty_ring, put_ring, put_bytes}
use Rattle.reading.specs.Reading.{frames}
use Rattle.registers.specs.Bits.{bit}
use Rattle.reading.specs.Received.{Received, a_byte, a_break, item_of, marked_cell}
use Rattle.reading.specs.Steps.{cut}
use Rattle.answers.specs.Answers.{done}
use Rattle.state.specs.declared.State.{State}
use Rattle.state.specs.State.{with_rx}
use Rattle.bridge.specs.Calls.{Call, World, world, Did, step}
use Rattle.places.specs.OneStore.{next_place, place_before, marked_at}
use Rattle.laws.specs.Observers.{any, accepted, breaks}
use Rattle.laws.specs.Worlds.{holds_some, held_to_send, rule_in}
use Rattle.laws.specs.Holding.{sends}
use Rattle.wrong.specs.Changing.{leaving}
use Rattle.wrong.specs.Seeing.{instead_at, in_state, keeping, after_sight, empty_send, having}

-- ---- bridges that read other cells than stand there

-- sends as if these cells stood in the receive store, and leaves it as it is
abbrev reading_as : (World → ℕ → ℕ) → Call → World → Did
reading_as change = instead_at sends (λ c w. keeping w.rx (step c (world w.state (map (change w) w.rx) w.tx)))

-- joins 13, break, 10 into an end of line: it reads no mark
abbrev pub joins_across : Call → World → Did
joins_across = reading_as (λ w n. n % 256)

-- heeds a break only inside the pair, behind C00: 50, break, 13, 10 is an end byte
abbrev pub wall_in_the_pair : Call → World → Did
wall_in_the_pair = reading_as (λ w n. cond (eqb (n % 256) w.state.regs.c00) n (n % 256))

-- takes a bit above the ninth for the mark
abbrev pub reads_upper_bits : Call → World → Did
reads_upper_bits = reading_as (λ w n. cond (leb 512 n) (marked_cell n) n)

-- reads over a break where C00 and C01 are equal
abbrev pub spans_equal_pairs : Call → World → Did
spans_equal_pairs = reading_as (λ w n. cond (eqb w.state.regs.c00 w.state.regs.c01) (n % 256) n)

-- ---- a bridge that waits behind a break

-- what comes before the first break
abbrev before_break : List Received → List Received
before_break [] = []
before_break (a_break ∷ xs) = []
before_break (a_byte b ∷ xs) = a_byte b ∷ before_break xs

abbrev nothing : List ℕ → Bool
nothing [] = true
nothing (f ∷ fs) = false

-- holds undecided bytes back for ever: a break decides nothing, and the end of sending is all it has to say
abbrev pub holds_back : Call → World → Did
holds_back =
    instead_at (λ c w a. sends c w a && nothing (frames (cut (rule_in w)) (before_break (held_to_send w))))
    (λ c w. in_state (λ s. with_rx s w.state.rx) (step c (having (λ s. with_rx s (empty_ring s.rx.cap)) w)))

-- ---- bridges that write a break wrongly

-- where a break is taken the receive store is changed so, and its ring
abbrev at_break : (World → State → State) → (World → List ℕ) → Call → World → Did
at_break state store = leaving (λ c w v. cond (breaks c w done) (world (state w v.state) (store w) v.tx) v)

-- marks the oldest cell
abbrev pub marks_the_oldest : Call → World → Did
marks_the_oldest = at_break (λ w s. s) (λ w. marked_at marked_cell w.state.rx.oldest w.rx)

-- the mark takes a place of its own
abbrev pub mark_takes_a_place : Call → World → Did
mark_takes_a_place = at_break (λ w s. with_rx s (put_ring w.state.rx)) (λ w. put_bytes w.rx w.state.rx 256)

-- the place before the next, where the newest stands if anything is held
abbrev newest : World → ℕ
newest w = place_before (length w.rx) (next_place (length w.rx) w.state.rx)

-- writes the newest cell held so, where a break is taken
abbrev marking : (ℕ → ℕ) → Call → World → Did
marking mark = at_break (λ w s. s) (λ w. cond (holds_some w) (marked_at mark (newest w) w.rx) w.rx)

-- leaves the bits above the ninth as they are
abbrev pub keeps_upper_bits : Call → World → Did
keeps_upper_bits = marking (λ n. marked_cell n + n / 512 * 512)

-- a second break takes the mark away
abbrev pub unmarks_again : Call → World → Did
unmarks_again = marking (λ n. cond (item_of n).broken (n % 256) (marked_cell n))

-- marks the cell before the next place though nothing is held
abbrev pub marks_unheld : Call → World → Did
marks_unheld = at_break (λ w s. s) (λ w. marked_at marked_cell (newest w) w.rx)

-- marks nothing while R10 bit 3 is off
abbrev pub marks_by_the_rule : Call → World → Did
marks_by_the_rule = leaving (λ c w v. cond (breaks c w done && not (bit 3 w.state.regs.r10)) (world v.state w.rx v.tx) v)

-- marks the transmit store as well
abbrev pub marks_both : Call → World → Did
marks_both = leaving (λ c w v. cond (breaks c w done) (world v.state v.rx (marked_at marked_cell 0 v.tx)) v)

-- stores a line byte with a bit above the ninth
abbrev pub puts_upper_bits : Call → World → Did
puts_upper_bits =
    leaving
    (λ c w v. cond (any (accepted c w done))
    (world v.state (marked_at (λ n. n + 512) (next_place (length w.rx) w.state.rx) v.rx) v.tx) v)

-- marks nothing at all
abbrev pub marks_nothing : Call → World → Did
marks_nothing = at_break (λ w s. s) (λ w. w.rx)

-- forgets the mark at the last place when the next byte comes round to place 0
abbrev pub forgets_round : Call → World → Did
forgets_round =
    leaving
    (λ c w v. cond (any (accepted c w done) && eqb (next_place (length w.rx) w.state.rx) 0)
    (world v.state (marked_at (λ n. n % 256) (length w.rx - 1) v.rx) v.tx) v)

-- ---- a bridge that holds nothing where bytes are undecided, so that a break then marks nothing

-- drops what is undecided when it ends its sending
abbrev pub drops_undecided : Call → World → Did
drops_undecided = after_sight empty_send (λ before after. with_rx after (empty_ring after.rx.cap))
