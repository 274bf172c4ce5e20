-- Mailboxes that refuse what they should take, take what they should refuse, or change something by a refusal.
use Rattle.std.specs.Prelude.{◌+◌, ◌%◌, true, false, cond, ◌&&◌, eqb, ltb}
use Rattle.frame.specs.Frame.{is_data}
use Rattle.store.specs.Ring.{drop_ring}
use Rattle.answers.specs.Answers.{refused}
use Rattle.mailbox.specs.Calls.{bus_command, on, Call, World, Did, step}
use Rattle.maillaws.specs.Sights.{Direction, ring_of, any, on_frame, on_bus_byte, on_bus_command, left}
use Rattle.mailwrong.specs.Spoiling.{instead, instead_at, refusing, with_ring}
use Rattle.mailwrong.specs.SpoiltWays.{overflows}

-- ---- refused without cause

-- is always without room: every data frame and every byte of the bus is refused 4
abbrev pub always_without_room : Call → World → Did
always_without_room = instead (λ c w. on_frame is_data (on_bus_byte (λ b mark. true) false c) c) (refusing 4)

-- refuses the byte that would fill the way d
abbrev pub refuses_last_place : Direction → Call → World → Did
refuses_last_place d = instead_at (λ c w a. any (left d c w a) && eqb ((ring_of d w).len + 1) (ring_of d w).cap) (refusing 4)

-- ---- refused, and something is changed

-- refuses a command above 127 and obeys its low seven bits all the same
abbrev pub refuses_and_obeys : Call → World → Did
refuses_and_obeys c w =
    on_bus_command (λ n. cond (ltb 127 n) (record { said = (step c w).said; world = (step (on (bus_command (n % 128))) w).world }) (step c w)) (step c w) c

-- refuses a byte for which the way d has no room, and drops the oldest to make some
abbrev pub refuses_and_drops : Direction → Call → World → Did
refuses_and_drops d = instead_at (overflows d) (λ c w. record { said = refused 4; world = with_ring d (drop_ring (ring_of d w) 1) w })
