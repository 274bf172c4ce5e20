-- The worlds that wrong mailboxes are tried in, by what differs from the start, and the calls that are made in them.
use Rattle.std.specs.Prelude.{ℕ, Bool, true, false, List, [], ◌∷◌}
use Rattle.frame.specs.Frame.{made}
use Rattle.role.specs.declared.Role.{Role}
use Rattle.news.specs.declared.News.{News}
use Rattle.news.specs.News.{come}
use Rattle.mailstate.specs.declared.State.{State}
use Rattle.mailstate.specs.Sizes.{start_state}
use Rattle.mailstate.specs.State.{with_talker, with_hold, with_bus}
use Rattle.mailbox.specs.Calls.{Call, on, loop_frame, bus_command, bus_byte, bus_fetch, World, world}
use Rattle.maillaws.specs.Sights.{Direction, to_bus, to_loop}
use Rattle.refuting.specs.SmallRings.{ring}
use Rattle.mailwrong.specs.Spoiling.{having, with_ring, with_news, with_cells, with_loop_role, on_bus, as_role}

-- two cells each way: "1" with the end mark and "7", "2" with it and "5"
abbrev pub cells_for : Direction → List ℕ
cells_for to_bus = 305 ∷ 55 ∷ []
cells_for to_loop = 306 ∷ 53 ∷ []

-- the start at the bus address 5, with its state changed
abbrev pub started : (State → State) → World
started change = world (change (start_state 5 2 2)) (cells_for to_bus) (cells_for to_loop)

-- the first n of the two wait in the way
abbrev pub waiting : Direction → ℕ → World → World
waiting d n w = with_ring d (ring 2 0 n) w

-- ---- roles, at the loop address 3 and the bus address 5

abbrev pub role_at : ℕ → ℕ → Bool → Role
role_at a phase listener = record { address = a; phase = phase; listener = listener }

-- listener on the loop, and on the bus: whoever leaves in the way
abbrev pub leaver : Direction → World
leaver to_bus = started (λ s. with_loop_role (role_at 3 0 true) s)
leaver to_loop = started (λ s. on_bus (as_role (role_at 5 0 true)) s)

-- addressed talker on the bus, and on the loop: whoever fetches from the way
abbrev pub fetcher : Direction → World
fetcher to_bus = started (λ s. on_bus (as_role (role_at 5 1 false)) s)
fetcher to_loop = started (λ s. with_loop_role (role_at 3 1 false) s)

-- the start, neither talker nor listener, with no address on the loop; and with the address 3
abbrev pub fresh : World
fresh = started (λ s. s)

abbrev pub assigned : World
assigned = started (λ s. with_loop_role (role_at 3 0 false) s)

-- both cells wait in both ways; and service is requested for both
abbrev pub full : World
full = waiting to_bus 2 (waiting to_loop 2 fresh)

abbrev pub requested : World
requested = with_news to_bus come (with_news to_loop come full)

-- a third cell is lent for the way to the bus, which the state does not know of
abbrev pub misfitting : World
misfitting = with_cells to_bus (305 ∷ 55 ∷ 0 ∷ []) fresh

-- active with data: the first cell has gone as 2,50, and the second waits
abbrev pub one_sent : World
one_sent =
    having (λ s. with_talker s (record { role = role_at 3 2 false; under = record { frame = made 2 50; finishing = false } }))
    (with_ring to_loop (ring 2 1 1) fresh)

-- what is told of a way: whether service is requested, whether something came, and whether it came since status was sent
abbrev pub news : Bool → Bool → Bool → News
news request available again = record { request = request; available = available; again = again }

-- a listener on the bus and a talker on the loop, in this phase and with this frame under way, that is told this of the way to the loop
abbrev pub reader : ℕ → ℕ → News → World
reader phase f n =
    having (λ s. with_talker s (record { role = role_at 3 phase false; under = record { frame = f; finishing = false } })) (with_news to_loop n (leaver to_loop))

-- the same, with "9" in the way to the loop
abbrev pub nine_came : ℕ → ℕ → News → World
nine_came phase f n = with_cells to_loop (57 ∷ 53 ∷ []) (waiting to_loop 1 (reader phase f n))

-- addressed talker on the bus in serial poll mode, whose status byte was read or not
abbrev pub serial_talker : Bool → World
serial_talker read =
    having
    (λ s. with_bus s (record { role = role_at 5 1 false; serial = true; read = read; configuring = false; polled = false; line = 0 }))
    fresh

-- a listener on the loop that says when it is not ready, and a talker on the bus
abbrev pub watchful : World
watchful = having (λ s. on_bus (as_role (role_at 5 1 false)) (with_hold s (record { enabled = true; held = false; frame = 0 }))) (leaver to_bus)

-- a listener on the loop whose frame f is held back
abbrev pub holding_back : ℕ → World
holding_back f = having (λ s. with_hold s (record { enabled = true; held = true; frame = f })) (waiting to_bus 1 (leaver to_bus))

-- ---- calls

abbrev pub takes : ℕ → ℕ → Call
takes k d = on (loop_frame (made k d))

-- the byte is left in the way, and the oldest is asked for
abbrev pub leaves : Direction → ℕ → Call
leaves to_bus b = takes 0 b
leaves to_loop b = on (bus_byte b false)

abbrev pub asks : Direction → Call
asks to_bus = on bus_fetch
asks to_loop = takes 5 96

-- a command on the bus, and the device clear that clears the way
abbrev pub commands : ℕ → Call
commands n = on (bus_command n)

abbrev pub clears : Direction → Call
clears to_bus = takes 4 20
clears to_loop = commands 20
