-- Mailboxes that refuse or take wrongly, or change something by a refusal, each refuted by one call. Assumes nothing.
use native.Mathlib.Omega.{arith}
use mathlib.Core.Path.{refl, ap}
use mathlib.Core.Bool.{false≢true, true≢false}
use lib.Dec.{eqb}
use Rattle.answers.specs.Answers.{is_refusal}
use Rattle.mailbox.specs.Calls.{bus_lines, on, World}
use Rattle.maillaws.specs.Sights.{to_bus, to_loop}
use Rattle.maillaws.specs.Replies.{RefusedExactly, RefusedStays}
use Rattle.mailwrong.specs.Spoiling.{overlooks}
use Rattle.mailwrong.specs.MailTrials.{fresh, misfitting, waiting, leaver, leaves, takes, commands}
use Rattle.mailwrong.specs.SpoiltWays.{replaces_newest}
use Rattle.mailwrong.specs.SpoiltRefusals.{always_without_room, refuses_last_place, refuses_and_obeys, refuses_and_drops}
use Rattle.mailwrong.specs.BrokenMail.{Breaks}
use Rattle.mailwrong.proofs.MailComputing.{computes}

-- ---- refused without cause

pub always_without_room_falls : Breaks always_without_room RefusedExactly
unfolding computes
always_without_room_falls law = true≢false ((law (leaves to_loop 57) (leaver to_loop) tt).accepts refl)

-- one place is free
pub refuses_last_place_to_bus_falls : Breaks (refuses_last_place to_bus) RefusedExactly
unfolding computes
refuses_last_place_to_bus_falls law = true≢false ((law (leaves to_bus 57) (waiting to_bus 1 (leaver to_bus)) tt).accepts refl)

pub refuses_last_place_to_loop_falls : Breaks (refuses_last_place to_loop) RefusedExactly
unfolding computes
refuses_last_place_to_loop_falls law = true≢false ((law (leaves to_loop 57) (waiting to_loop 1 (leaver to_loop)) tt).accepts refl)

-- ---- taken, where it should be refused

-- the state does not fit, and the lines are looked at
pub takes_misfit_falls : Breaks (overlooks 2) RefusedExactly
unfolding computes
takes_misfit_falls law = false≢true (ap is_refusal ((law (on bus_lines) misfitting tt).given (λ e. omega arith)))

pub takes_frame_2048_falls : Breaks (overlooks 3) RefusedExactly
unfolding computes
takes_frame_2048_falls law = false≢true (ap is_refusal ((law (takes 8 0) fresh tt).given (λ e. omega arith)))

pub takes_command_128_falls : Breaks (overlooks 13) RefusedExactly
unfolding computes
takes_command_128_falls law = false≢true (ap is_refusal ((law (commands 128) fresh tt).given (λ e. omega arith)))

-- there is no room
pub replaces_newest_to_bus_takes : Breaks (replaces_newest to_bus) RefusedExactly
unfolding computes
replaces_newest_to_bus_takes law = false≢true (ap is_refusal ((law (leaves to_bus 57) (waiting to_bus 2 (leaver to_bus)) tt).given (λ e. omega arith)))

pub replaces_newest_to_loop_takes : Breaks (replaces_newest to_loop) RefusedExactly
unfolding computes
replaces_newest_to_loop_takes law = false≢true (ap is_refusal ((law (leaves to_loop 57) (waiting to_loop 2 (leaver to_loop)) tt).given (λ e. omega arith)))

-- ---- refused, and something is changed

-- 191 has the low seven bits of 63, and a listener listens no more
pub refuses_and_obeys_falls : Breaks refuses_and_obeys RefusedStays
unfolding computes
refuses_and_obeys_falls law = false≢true (ap (λ (w : World). w.state.bus.role.listener) (law (commands 191) (leaver to_loop) tt refl))

-- one cell waits, of two
pub refuses_and_drops_to_bus_falls : Breaks (refuses_and_drops to_bus) RefusedStays
unfolding computes
refuses_and_drops_to_bus_falls law =
    true≢false (ap (λ (w : World). eqb w.state.tobus.ring.len 1) (law (leaves to_bus 57) (waiting to_bus 2 (leaver to_bus)) tt refl))

pub refuses_and_drops_to_loop_falls : Breaks (refuses_and_drops to_loop) RefusedStays
unfolding computes
refuses_and_drops_to_loop_falls law =
    true≢false (ap (λ (w : World). eqb w.state.toloop.ring.len 1) (law (leaves to_loop 57) (waiting to_loop 2 (leaver to_loop)) tt refl))
