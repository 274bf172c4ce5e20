-- Mailboxes whose service requests begin or end wrongly, or show where there is none, each refuted by one call or two. Assumes nothing.
use mathlib.Core.Path.{refl}
use mathlib.Core.Bool.{false, false≢true, true≢false}
use mathlib.Core.List.{[]}
use Rattle.news.specs.News.{come}
use Rattle.mailbox.specs.Calls.{on, bus_lines}
use Rattle.maillaws.specs.Sights.{to_bus, to_loop}
use Rattle.maillaws.specs.NewsTold.{StatusTold}
use Rattle.maillaws.specs.Requesting.{RequestWaits, RequestGoes}
use Rattle.refuting.proofs.StandsIn.{holds, no_round}
use Rattle.mailwrong.specs.Spoiling.{with_news}
use Rattle.mailwrong.specs.MailTrials.{cells_for, waiting, full, requested, leaver, fetcher, nine_came, serial_talker, takes, leaves, asks, clears}
use Rattle.mailwrong.specs.SpoiltRequests.{request_for_ever, status_leaves_request, last_leaves_request, never_requests, requests_each_byte, shows_always}
use Rattle.mailwrong.specs.BrokenMail.{Breaks}
use Rattle.mailwrong.proofs.MailComputing.{computes}

-- ---- a request that shows: a device clear empties the way, and the lines are looked at, or an identify frame comes

pub request_for_ever_to_bus_shows : Breaks (request_for_ever to_bus) (RequestWaits to_bus)
unfolding computes
request_for_ever_to_bus_shows law =
    false≢true (rw (holds (cells_for to_bus) 0 0 refl) at (law (clears to_bus) [] (on bus_lines) requested tt tt tt refl refl))

pub request_for_ever_to_loop_shows : Breaks (request_for_ever to_loop) (RequestWaits to_loop)
unfolding computes
request_for_ever_to_loop_shows law =
    false≢true (rw (holds (cells_for to_loop) 0 0 refl) at (law (clears to_loop) [] (takes 6 0) requested tt tt tt refl refl))

pub shows_always_to_bus_falls : Breaks shows_always (RequestWaits to_bus)
unfolding computes
shows_always_to_bus_falls law = false≢true (rw (holds (cells_for to_bus) 0 0 refl) at (law (clears to_bus) [] (on bus_lines) full tt tt tt refl refl))

pub shows_always_to_loop_falls : Breaks shows_always (RequestWaits to_loop)
unfolding computes
shows_always_to_loop_falls law = false≢true (rw (holds (cells_for to_loop) 0 0 refl) at (law (clears to_loop) [] (takes 6 0) full tt tt tt refl refl))

-- ---- where it begins: a byte comes into the empty way, and one comes behind another

pub never_requests_to_bus_falls : Breaks (never_requests to_bus) (RequestGoes to_bus)
unfolding computes
never_requests_to_bus_falls law = false≢true ((law (leaves to_bus 57) (leaver to_bus) tt).begins (rw (holds (cells_for to_bus) 0 0 refl)))

pub never_requests_to_loop_falls : Breaks (never_requests to_loop) (RequestGoes to_loop)
unfolding computes
never_requests_to_loop_falls law = false≢true ((law (leaves to_loop 57) (leaver to_loop) tt).begins (rw (holds (cells_for to_loop) 0 0 refl)))

pub requests_each_byte_to_bus_falls : Breaks (requests_each_byte to_bus) (RequestGoes to_bus)
unfolding computes
requests_each_byte_to_bus_falls law =
    true≢false ((law (leaves to_bus 57) (waiting to_bus 1 (leaver to_bus)) tt).stays (rw (holds (cells_for to_bus) 0 1 refl)) refl refl refl)

pub requests_each_byte_to_loop_falls : Breaks (requests_each_byte to_loop) (RequestGoes to_loop)
unfolding computes
requests_each_byte_to_loop_falls law =
    true≢false ((law (leaves to_loop 57) (waiting to_loop 1 (leaver to_loop)) tt).stays (rw (holds (cells_for to_loop) 0 1 refl)) refl refl refl)

-- ---- where it ends: a clear, the status byte, the last byte fetched

pub request_for_ever_to_bus_falls : Breaks (request_for_ever to_bus) (RequestGoes to_bus)
unfolding computes
request_for_ever_to_bus_falls law = true≢false ((law (clears to_bus) requested tt).cleared refl)

pub request_for_ever_to_loop_falls : Breaks (request_for_ever to_loop) (RequestGoes to_loop)
unfolding computes
request_for_ever_to_loop_falls law = true≢false ((law (clears to_loop) requested tt).cleared refl)

pub status_leaves_request_to_bus_falls : Breaks (status_leaves_request to_bus) (RequestGoes to_bus)
unfolding computes
status_leaves_request_to_bus_falls law = true≢false ((law (asks to_bus) (with_news to_bus come (serial_talker false)) tt).ends refl)

pub status_leaves_request_to_loop_falls : Breaks (status_leaves_request to_loop) (RequestGoes to_loop)
unfolding computes
status_leaves_request_to_loop_falls law = true≢false ((law (takes 5 97) (nine_came 1 0 come) tt).ends refl)

pub status_leaves_request_told : Breaks (status_leaves_request to_loop) StatusTold
unfolding computes
status_leaves_request_told law = true≢false (law (takes 5 97) (nine_came 1 0 come) tt refl refl refl).ends

pub last_leaves_request_to_bus_falls : Breaks (last_leaves_request to_bus) (RequestGoes to_bus)
unfolding computes
last_leaves_request_to_bus_falls law =
    true≢false
    ((law (asks to_bus) (with_news to_bus come (waiting to_bus 1 (fetcher to_bus))) tt).spent refl (rw (no_round 2 1 refl, holds (cells_for to_bus) 1 0 refl)))

pub last_leaves_request_to_loop_falls : Breaks (last_leaves_request to_loop) (RequestGoes to_loop)
unfolding computes
last_leaves_request_to_loop_falls law =
    true≢false
    (rw (holds (cells_for to_loop) 0 1 refl)
    at ((law (asks to_loop) (with_news to_loop come (waiting to_loop 1 (fetcher to_loop))) tt).spent (rw (holds (cells_for to_loop) 0 1 refl))
    (rw (holds (cells_for to_loop) 0 1 refl, no_round 2 1 refl, holds (cells_for to_loop) 1 0 refl))))
