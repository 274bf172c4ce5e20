-- Mailboxes that give a side that asks something else than is due.
use Rattle.std.specs.Prelude.{Bool, false, ◌&&◌, not}
use Rattle.frame.specs.Frame.{is_data, is_end}
use Rattle.role.specs.Role.{with_phase}
use Rattle.bus.specs.declared.Bus.{Bus}
use Rattle.mailbox.specs.Calls.{bus_fetch, Call, World, world, Did, step}
use Rattle.mailstate.specs.State.{with_to_bus, with_to_loop, with_bus}
use Rattle.maillaws.specs.Sights.{Direction, to_loop, ring_of, on_frame, on_one, bus_talks}
use Rattle.maillaws.specs.Giving.{asks_loop}
use Rattle.mailwrong.specs.Spoiling.{instead, instead_at, having, with_ring, on_bus, as_role, with_serial, with_read}
use Rattle.mailwrong.specs.SpoiltWays.{holding}
use Rattle.mailwrong.specs.SpoiltFetches.{takes_from}

-- it does what it would do if nothing waited in the way, and what waits stays
abbrev as_empty : Direction → Call → World → Did
as_empty d c w =
    let other = step c (with_ring d (holding 0 (ring_of d w)) w) in
    record { said = other.said; world = with_ring d (ring_of d w) other.world }

-- fetches nothing from the way d: says that nothing waits, whatever does
abbrev pub fetches_nothing : Direction → Call → World → Did
fetches_nothing d = instead_at (takes_from d) (as_empty d)

-- ends its sending on the loop behind a byte that has the end mark, though more waits
abbrev pub ends_at_mark : Call → World → Did
ends_at_mark = instead (λ c w. on_frame (λ f. (is_data f && is_end f) && asks_loop w f) false c) (as_empty to_loop)

-- the two ways, each in the place of the other
abbrev exchanged : World → World
exchanged w = world (with_to_loop (with_to_bus w.state w.state.toloop) w.state.tobus) w.toloop w.tobus

-- gives the loop what the loop itself left
abbrev pub gives_own : Call → World → Did
gives_own =
    instead (λ c w. on_frame (asks_loop w) false c)
    (λ c w. let other = step c (exchanged w) in record { said = other.said; world = exchanged other.world })

-- ---- on the bus

-- it does what it would do with another side to the bus, which then stays as it was
abbrev as_though : (Bus → Bus) → Call → World → Did
as_though change c w =
    let other = step c (having (on_bus change) w) in
    record { said = other.said; world = having (λ s. with_bus s w.state.bus) other.world }

abbrev fetching : (World → Bool) → Call → World → Bool
fetching test c w = on_one bus_fetch (test w) false c

-- hands over data in serial poll mode
abbrev pub data_in_serial_poll : Call → World → Did
data_in_serial_poll = instead (fetching (λ w. w.state.bus.serial)) (as_though (with_serial false))

-- gives its status byte as often as it is asked for
abbrev pub status_often : Call → World → Did
status_often = instead (fetching (λ w. w.state.bus.read)) (as_though (with_read false))

-- hands over what waits though it is not talker
abbrev pub gives_unasked : Call → World → Did
gives_unasked = instead (fetching (λ w. not (bus_talks w))) (as_though (λ b. as_role (with_phase b.role 1) b))
