-- Mailboxes whose answers are of no kind that there is, or of too many bits, each refuted by one call. Assumes nothing.
use mathlib.Core.Path.{refl}
use mathlib.Core.Bool.{false≢true}
use mathlib.Core.List.{[], ◌∷◌}
use Rattle.frame.specs.Frame.{made}
use Rattle.mailbox.specs.Calls.{bus_lines, show, on}
use Rattle.maillaws.specs.Sights.{to_bus}
use Rattle.maillaws.specs.Replies.{AnswersSo, OneFrameOut, NarrowAnswers}
use Rattle.refuting.proofs.StandsIn.{holds}
use Rattle.mailwrong.specs.Spoiling.{with_cells}
use Rattle.mailwrong.specs.MailTrials.{fresh, misfitting, requested, waiting, fetcher, one_sent, takes, asks}
use Rattle.mailwrong.specs.SpoiltReplies.{done_for_nothing, show_refused, takes_commands_off, takes_returns_off, gives_high_bits, requests_at512}
use Rattle.mailwrong.specs.BrokenMail.{Breaks}
use Rattle.mailwrong.proofs.MailComputing.{computes}

-- ---- kinds

pub done_for_nothing_falls : Breaks done_for_nothing AnswersSo
unfolding computes
done_for_nothing_falls law = false≢true (law (asks to_bus) fresh tt)

pub show_refused_falls : Breaks show_refused AnswersSo
unfolding computes
show_refused_falls law = false≢true (law (show 0) misfitting tt)

pub takes_commands_off_falls : Breaks takes_commands_off OneFrameOut
unfolding computes
takes_commands_off_falls law = false≢true (law (takes 4 20) fresh tt (made 4 20) refl refl)

pub takes_commands_off_answers : Breaks takes_commands_off AnswersSo
unfolding computes
takes_commands_off_answers law = false≢true (law (takes 4 20) fresh tt)

-- 2,50 comes back
pub takes_returns_off_falls : Breaks takes_returns_off OneFrameOut
unfolding computes
takes_returns_off_falls law = false≢true (law (takes 2 50) one_sent tt (made 2 50) refl refl)

-- ---- bits

-- a cell that stands as 1073 has the byte 49
pub gives_high_bits_falls : Breaks gives_high_bits NarrowAnswers
unfolding computes
gives_high_bits_falls law =
    false≢true
    (rw (holds (1073 ∷ 55 ∷ []) 0 1 refl) at (law (asks to_bus) (with_cells to_bus (1073 ∷ 55 ∷ []) (waiting to_bus 1 (fetcher to_bus))) tt))

pub requests_at_512_falls : Breaks requests_at512 NarrowAnswers
unfolding computes
requests_at_512_falls law = false≢true (law (on bus_lines) requested tt)
