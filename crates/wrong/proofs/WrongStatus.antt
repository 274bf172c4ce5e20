-- Every bridge whose status byte or service request is wrong breaks the law of the status byte or that of requests. Assumes nothing.
use native.Mathlib.Omega.{arith}
use mathlib.Core.Path.{◌≡◌, refl, ap}
use mathlib.Core.Bool.{true, false, false≢true, true≢false}
use mathlib.Core.List.{[], ◌∷◌}
use Rattle.frame.specs.Frame.{made}
use Rattle.store.specs.Ring.{held}
use Rattle.store.proofs.Laws.{held_unbroken, held_empty}
use Rattle.bridge.specs.Calls.{write, key, on}
use Rattle.laws.specs.StatusTold.{StatusTold}
use Rattle.laws.specs.Requests.{RequestsGo}
use Rattle.wrong.specs.SmallWorlds.{transmit_bytes, fresh, holding_bytes, talker_of_one, talker_without_room}
use Rattle.wrong.specs.Trials.{one_to_four}
use Rattle.wrong.specs.SmallWorlds.{hidden_request, shown_request, takes_command, takes_ready}
use Rattle.wrong.specs.WrongStatus.{shows_exchanged, shows_room, shows_after, shows_any_request}
use Rattle.wrong.specs.WrongStatus.{enables_exchanged, enables_all, requests_on, requests_forever}
use Rattle.wrong.specs.Broken.{Breaks}
use Rattle.wrong.proofs.Computing.{computes}
use Rattle.wrong.proofs.Ends.{has_at}

one_held : held one_to_four (record { cap = 4; oldest = 0; len = 1 }) ≡ 49 ∷ []
one_held = held_unbroken one_to_four (record { cap = 4; oldest = 0; len = 1 }) (omega arith)

all_held : held transmit_bytes (record { cap = 3; oldest = 0; len = 3 }) ≡ transmit_bytes
all_held = held_unbroken transmit_bytes (record { cap = 3; oldest = 0; len = 3 }) (omega arith)

-- ---- the status byte

-- one byte is held: bit 3 where bit 2 is due
pub shows_exchanged_falls : Breaks shows_exchanged StatusTold
unfolding computes
shows_exchanged_falls law =
    let sent = law (takes_ready 97) talker_of_one tt (made 5 97) refl refl refl in
    let z : true ≡ false = rw (one_held, held_empty transmit_bytes 3) at (ap (has_at 0 11) sent) in
    true≢false z

-- the transmit store is full: no bit is due
pub shows_room_falls : Breaks shows_room StatusTold
unfolding computes
shows_room_falls law =
    let sent = law (takes_ready 97) talker_without_room tt (made 5 97) refl refl refl in
    let z : true ≡ false = rw (all_held, held_empty one_to_four 4) at (ap (has_at 0 2) sent) in
    true≢false z

-- bit 6 is due, since a request showed
pub shows_after_falls : Breaks shows_after StatusTold
unfolding computes
shows_after_falls law =
    let sent = law (takes_ready 97) shown_request tt (made 5 97) refl refl refl in
    let z : true ≡ false = rw (held_empty one_to_four 4, held_empty transmit_bytes 3) at (ap (has_at 0 3) sent) in
    true≢false z

-- bit 6 where R00 bit 3 is off
pub shows_any_request_falls : Breaks shows_any_request StatusTold
unfolding computes
shows_any_request_falls law =
    let sent = law (takes_ready 97) hidden_request tt (made 5 97) refl refl refl in
    let z : true ≡ false = rw (held_empty one_to_four 4, held_empty transmit_bytes 3) at (ap (has_at 0 67) sent) in
    true≢false z

-- ---- requests

-- a byte is held, and R01 bit 2 is switched on
pub enables_exchanged_falls : Breaks enables_exchanged RequestsGo
unfolding computes
enables_exchanged_falls law =
    let z : false ≡ true = rw one_held at ((law (on (write 1 4)) (holding_bytes 1) tt).goes refl) in
    false≢true z

pub enables_all_falls : Breaks enables_all RequestsGo
unfolding computes
enables_all_falls law = true≢false ((law (on key) fresh tt).goes refl)

pub requests_on_falls : Breaks requests_on RequestsGo
unfolding computes
requests_on_falls law = true≢false ((law (takes_command 20) hidden_request tt).starts refl)

pub requests_forever_falls : Breaks requests_forever RequestsGo
unfolding computes
requests_forever_falls law = true≢false ((law (takes_ready 97) hidden_request tt).goes refl)
