-- Mailboxes that show a request for service on the loop wrongly. Assumes nothing.
use mathlib.Core.Path.{refl}
use mathlib.Core.Bool.{false≢true, true≢false}
use Rattle.frame.specs.Frame.{made}
use Rattle.maillaws.specs.Sights.{to_loop}
use Rattle.maillaws.specs.ServiceOut.{ServiceBit}
use Rattle.mailwrong.specs.MailTrials.{fetcher, fresh, requested, takes}
use Rattle.mailwrong.specs.SpoiltService.{hides_in_identify, status_requests, strips_others, marks_commands}
use Rattle.mailwrong.specs.BrokenMail.{Breaks}
use Rattle.mailwrong.proofs.MailComputing.{computes}

-- 6,0 goes on as it came, while service is requested
pub hides_in_identify_falls : Breaks hides_in_identify ServiceBit
unfolding computes
hides_in_identify_falls law = false≢true ((law (takes 6 0) requested tt (made 6 0) 6 0 refl refl).bit refl)

-- 1,0 is the status byte, and nothing is requested
pub status_requests_falls : Breaks status_requests ServiceBit
unfolding computes
status_requests_falls law = true≢false ((law (takes 5 97) (fetcher to_loop) tt (made 5 97) 1 0 refl refl).bit refl)

-- 1,57 goes on as 0,57
pub strips_others_falls : Breaks strips_others ServiceBit
unfolding computes
strips_others_falls law = false≢true ((law (takes 1 57) fresh tt (made 1 57) 0 57 refl refl).bit refl)

-- 4,63 goes on as 5,63
pub marks_commands_falls : Breaks marks_commands ServiceBit
unfolding computes
marks_commands_falls law = false≢true (law (takes 4 63) requested tt (made 4 63) 5 63 refl refl).kind
