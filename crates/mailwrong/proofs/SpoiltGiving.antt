-- Mailboxes that give a side that asks something else than is due, each refuted by one call. Assumes nothing.
use mathlib.Core.Path.{refl}
use mathlib.Core.Bool.{true, false}
use mathlib.Core.List.{[], ◌∷◌}
use Rattle.frame.specs.Frame.{made}
use Rattle.maillaws.specs.Sights.{to_bus, to_loop}
use Rattle.maillaws.specs.WaysKept.{WayKept}
use Rattle.maillaws.specs.Giving.{LoopGiven, BusGiven}
use Rattle.refuting.proofs.Apart.{lists_differ, answers_differ}
use Rattle.refuting.proofs.StandsIn.{holds, no_round}
use Rattle.mailwrong.specs.MailTrials.{cells_for, started, waiting, fetcher, one_sent, serial_talker, takes, asks}
use Rattle.mailwrong.specs.SpoiltFetches.{drops_mark, newest_first}
use Rattle.mailwrong.specs.SpoiltGiving.{fetches_nothing, ends_at_mark, gives_own, data_in_serial_poll, status_often, gives_unasked}
use Rattle.mailwrong.specs.BrokenMail.{Breaks}
use Rattle.mailwrong.proofs.MailComputing.{computes}

-- ---- on the loop: both cells wait, and data is asked for

-- 5,64 is answered, though "2" waits
pub fetches_nothing_to_loop_falls : Breaks (fetches_nothing to_loop) LoopGiven
unfolding computes
fetches_nothing_to_loop_falls law =
    lists_differ _ _ refl
    (rw (holds (cells_for to_loop) 0 2 refl)
    at (law (asks to_loop) (waiting to_loop 2 (fetcher to_loop)) tt (made 5 96) refl (rw (holds (cells_for to_loop) 0 2 refl)) refl).0.first)

-- "1" is sent, which the loop left
pub gives_own_falls : Breaks gives_own LoopGiven
unfolding computes
gives_own_falls law =
    lists_differ _ _ refl
    (rw (holds (cells_for to_bus) 0 2 refl, holds (cells_for to_loop) 0 2 refl)
    at (law (asks to_loop) (waiting to_bus 2 (waiting to_loop 2 (fetcher to_loop))) tt (made 5 96) refl refl refl).0.first)

-- "1" is sent, and both that were left for the loop wait on
pub gives_own_mixes : Breaks gives_own (WayKept to_loop)
unfolding computes
gives_own_mixes law =
    lists_differ _ _ refl
    (rw (holds (cells_for to_bus) 0 2 refl, holds (cells_for to_loop) 0 2 refl)
    at (law (asks to_loop ∷ []) (waiting to_bus 2 (waiting to_loop 2 (fetcher to_loop))) tt (tt, tt) refl))

-- "1" is gone, and the bus has not fetched it
pub gives_own_takes : Breaks gives_own (WayKept to_bus)
unfolding computes
gives_own_takes law =
    lists_differ _ _ refl
    (rw (no_round 2 1 refl, holds (cells_for to_bus) 1 1 refl, holds (cells_for to_bus) 0 2 refl)
    at (law (asks to_loop ∷ []) (waiting to_bus 2 (waiting to_loop 2 (fetcher to_loop))) tt (tt, tt) refl))

pub newest_first_to_loop_given : Breaks (newest_first to_loop) LoopGiven
unfolding computes
newest_first_to_loop_given law =
    lists_differ _ _ refl
    (rw (holds (cells_for to_loop) 0 2 refl, no_round 2 1 refl, holds (cells_for to_loop) 1 1 refl)
    at (law (asks to_loop) (waiting to_loop 2 (fetcher to_loop)) tt (made 5 96) refl (rw (holds (cells_for to_loop) 0 2 refl, no_round 2 1 refl)) refl).0.first)

-- 2,50 comes back unchanged, and 5,64 is answered, though "5" waits
pub ends_at_mark_falls : Breaks ends_at_mark LoopGiven
unfolding computes
ends_at_mark_falls law =
    lists_differ _ _ refl (rw (holds (cells_for to_loop) 1 1 refl) at (law (takes 2 50) one_sent tt (made 2 50) refl refl refl).0.first)

-- ---- on the bus

-- nothing is answered, though "1" waits
pub fetches_nothing_to_bus_falls : Breaks (fetches_nothing to_bus) BusGiven
unfolding computes
fetches_nothing_to_bus_falls law =
    lists_differ _ _ refl
    (rw (holds (cells_for to_bus) 0 2 refl) at ((law (asks to_bus) (waiting to_bus 2 (fetcher to_bus)) tt refl refl).waiting refl refl).0.first)

pub drops_mark_to_bus_given : Breaks (drops_mark to_bus) BusGiven
unfolding computes
drops_mark_to_bus_given law =
    lists_differ _ _ refl
    (rw (holds (cells_for to_bus) 0 2 refl) at ((law (asks to_bus) (waiting to_bus 2 (fetcher to_bus)) tt refl refl).waiting refl refl).0.first)

-- the cell of "1" is answered in a serial poll, where the status byte is 0
pub data_in_serial_poll_falls : Breaks data_in_serial_poll BusGiven
unfolding computes
data_in_serial_poll_falls law =
    answers_differ _ _ refl
    (rw (holds (cells_for to_bus) 0 2 refl) at ((law (asks to_bus) (waiting to_bus 2 (serial_talker false)) tt refl refl).status refl refl refl))

-- the status byte was read, and is answered once more
pub status_often_falls : Breaks status_often BusGiven
unfolding computes
status_often_falls law = answers_differ _ _ refl ((law (asks to_bus) (serial_talker true) tt refl refl).once refl refl refl)

-- "1" is handed over by a mailbox that is not talker
pub gives_unasked_falls : Breaks gives_unasked BusGiven
unfolding computes
gives_unasked_falls law =
    answers_differ _ _ refl (rw (holds (cells_for to_bus) 0 2 refl) at ((law (asks to_bus) (waiting to_bus 2 (started (λ s. s))) tt refl refl).silent refl))
