-- Parallel polls: the table of page 21 for the loop, and the rows of section 4 for both sides.
use Rattle.std.specs.Prelude.{ℕ, ◌+◌, ◌/◌, ◌%◌, ◌^◌, Bool, true, false, cond, ◌&&◌, ◌||◌, not, eqb, ltb}
use Rattle.polls.specs.declared.Response.{Response}

-- at the start, and after a message that disables it
abbrev pub no_response : Response
no_response = record { on = false; line = 0; sense = false }

-- Parallel poll enable 0 to 15 on the loop, messages 128 to 143: 0 to 7 answer while service is not requested, 8 to 15 while it is
abbrev pub loop_response : ℕ → Response
loop_response d = record { on = true; line = d % 8; sense = eqb (d / 8 % 2) 1 }

-- Parallel poll enable 0 to 15 on the bus, secondary commands 96 to 111: always the positive sense
abbrev pub bus_response : ℕ → Response
bus_response c = record { on = true; line = c % 8; sense = true }

-- the poll is answered: it is set, and service is requested or not as it is set
abbrev pub answers : Response → Bool → Bool
answers p requested = p.on && ((p.sense && requested) || (not p.sense && not requested))

-- HP-IB: the line's bit while the poll is answered
unfoldable pub answer_bits : Response → Bool → ℕ
answer_bits p requested = cond (answers p requested) (2 ^ p.line) 0

-- the bit of a line in a byte
abbrev pub has_bit : ℕ → ℕ → Bool
has_bit d n = eqb (d / 2 ^ n % 2) 1

-- HP-IL, identify: the line's bit is set while the poll is answered, and no bit is taken away
unfoldable pub joined : Response → Bool → ℕ → ℕ
joined p requested d = cond (answers p requested && not (has_bit d p.line)) (d + 2 ^ p.line) d

-- a line is one of eight
abbrev pub fit_test : Response → Bool
fit_test p = ltb p.line 8
