-- Mailboxes that pass another frame on than is due, or send where they should pass. Assumes nothing.
use mathlib.Core.Path.{refl}
use Rattle.frame.specs.Frame.{made}
use Rattle.mailstate.specs.State.{with_source}
use Rattle.maillaws.specs.Sights.{to_loop}
use Rattle.maillaws.specs.FramesOn.{FramesPass}
use Rattle.refuting.proofs.Apart.{answers_differ}
use Rattle.refuting.proofs.StandsIn.{holds}
use Rattle.mailwrong.specs.Spoiling.{having}
use Rattle.mailwrong.specs.MailTrials.{cells_for, waiting, fetcher, fresh, assigned, one_sent, takes, asks}
use Rattle.mailwrong.specs.SpoiltPassing.{spoils_others, spoils_commands, offers_taken, sends_unasked, has_no_id, feeds_for_ever}
use Rattle.mailwrong.specs.BrokenMail.{Breaks}
use Rattle.mailwrong.proofs.MailComputing.{computes}

-- 0,57 goes on as 0,58
pub spoils_others_falls : Breaks spoils_others FramesPass
unfolding computes
spoils_others_falls law = answers_differ _ _ refl ((law (takes 0 57) fresh tt (made 0 57) refl refl).others refl)

-- 4,63 goes on as 4,0
pub spoils_commands_falls : Breaks spoils_commands FramesPass
unfolding computes
spoils_commands_falls law = answers_differ _ _ refl ((law (takes 4 63) fresh tt (made 4 63) refl refl).command refl)

-- 5,131 is answered by 5,131, where 5,132 is due
pub offers_taken_falls : Breaks offers_taken FramesPass
unfolding computes
offers_taken_falls law = answers_differ _ _ refl ((law (takes 5 131) fresh tt (made 5 131) refl refl).address refl refl)

-- 5,96 is answered by 2,50, though no talker was asked
pub sends_unasked_falls : Breaks sends_unasked FramesPass
unfolding computes
sends_unasked_falls law =
    answers_differ _ _ refl
    (rw (holds (cells_for to_loop) 0 2 refl)
    at ((law (asks to_loop) (waiting to_loop 2 assigned) tt (made 5 96) refl refl).ready refl refl refl))

-- 5,98 goes on, where "H" is due
pub has_no_id_falls : Breaks has_no_id FramesPass
unfolding computes
has_no_id_falls law = answers_differ _ _ refl ((law (takes 5 98) (fetcher to_loop) tt (made 5 98) refl refl).device refl refl)

-- 5,99 goes on, where 0,67 is due
pub has_no_id_either : Breaks has_no_id FramesPass
unfolding computes
has_no_id_either law = answers_differ _ _ refl ((law (takes 5 99) (fetcher to_loop) tt (made 5 99) refl refl).accessory refl refl)

-- 2,50 is back after one byte of the ID, and a line feed follows, where "P" is due
pub feeds_for_ever_falls : Breaks feeds_for_ever FramesPass
unfolding computes
feeds_for_ever_falls law = answers_differ _ _ refl ((law (takes 2 50) (having (λ s. with_source s 1) one_sent) tt (made 2 50) refl refl).goeson refl)
