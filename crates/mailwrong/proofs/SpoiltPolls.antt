-- Mailboxes that answer parallel polls wrongly, or show a request wrongly, each refuted by one call. Assumes nothing.
use mathlib.Core.Path.{refl, ap}
use mathlib.Core.Bool.{Bool, true, false≢true, true≢false}
use Rattle.frame.specs.Frame.{made}
use Rattle.polls.specs.declared.Response.{Response}
use Rattle.mailstate.specs.State.{with_response}
use Rattle.mailbox.specs.Calls.{bus_lines, on, World}
use Rattle.maillaws.specs.Sights.{to_bus}
use Rattle.maillaws.specs.PollsTold.{LinesTold, IdentifyTold, ResponseGoes}
use Rattle.refuting.proofs.Apart.{answers_differ}
use Rattle.mailwrong.specs.Spoiling.{having, on_bus}
use Rattle.mailwrong.specs.MailTrials.{fresh, leaver, requested, takes}
use Rattle.mailwrong.specs.SpoiltPolls.{hides_request, answers_next_line, takes_bits, ignores_poll, enabled_for_others, answers_on}
use Rattle.mailwrong.specs.BrokenMail.{Breaks}
use Rattle.mailwrong.proofs.MailComputing.{computes}

-- service is requested, and a poll of either side is answered on line 2
abbrev polled : World → World
polled w =
    having
    (λ s. on_bus (λ b. record { role = b.role; serial = b.serial; read = b.read; configuring = b.configuring; polled = true; line = 2 })
    (with_response s (record { on = true; line = 2; sense = true })))
    w

-- ---- the lines

-- 0, where SRQ is on
pub hides_request_falls : Breaks hides_request LinesTold
unfolding computes
hides_request_falls law = answers_differ _ _ refl (law (on bus_lines) requested tt refl refl)

-- 264, where it is 260
pub answers_next_line_falls : Breaks answers_next_line LinesTold
unfolding computes
answers_next_line_falls law = answers_differ _ _ refl (law (on bus_lines) (polled requested) tt refl refl)

-- ---- the identify frame

-- 6,0, where it is 7,0
pub hides_request_identified : Breaks hides_request IdentifyTold
unfolding computes
hides_request_identified law = answers_differ _ _ refl (law (takes 6 0) requested tt (made 6 0) refl refl refl)

-- 7,8, where it is 7,4
pub answers_next_line_identified : Breaks answers_next_line IdentifyTold
unfolding computes
answers_next_line_identified law = answers_differ _ _ refl (law (takes 6 0) (polled requested) tt (made 6 0) refl refl refl)

-- 6,0, where it is 6,1
pub takes_bits_falls : Breaks takes_bits IdentifyTold
unfolding computes
takes_bits_falls law = answers_differ _ _ refl (law (takes 6 1) fresh tt (made 6 1) refl refl refl)

-- ---- the response to polls of the loop

abbrev is_on : Response → Bool
is_on p = p.on

pub ignores_poll_falls : Breaks ignores_poll ResponseGoes
unfolding computes
ignores_poll_falls law = false≢true (ap is_on (law (takes 4 138) (leaver to_bus) tt refl))

pub enabled_for_others_falls : Breaks enabled_for_others ResponseGoes
unfolding computes
enabled_for_others_falls law = true≢false (ap is_on (law (takes 4 138) fresh tt refl))

pub answers_on_falls : Breaks answers_on ResponseGoes
unfolding computes
answers_on_falls law = true≢false (ap is_on (law (takes 4 21) (polled fresh) tt refl))
