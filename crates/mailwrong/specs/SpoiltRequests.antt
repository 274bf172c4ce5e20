-- Mailboxes whose service requests begin or end wrongly, or show where there is none.
use Rattle.std.specs.Prelude.{◌+◌, ◌/◌, ◌*◌, Bool, true, cond, ◌||◌, leb}
use Rattle.answers.specs.Answers.{Said, frame, lines}
use Rattle.mailstate.specs.declared.State.{State}
use Rattle.mailbox.specs.Calls.{Call, World, Did}
use Rattle.maillaws.specs.Sights.{Direction, of_frame_said, any, left, fetched, told}
use Rattle.maillaws.specs.Requesting.{carries_service}
use Rattle.mailwrong.specs.Spoiling.{after_sight, answering, with_way, of_lines}
use Rattle.mailwrong.specs.SpoiltClears.{way_of}

-- whether service is requested
abbrev with_request : Direction → Bool → State → State
with_request d x s =
    with_way d
    (record { ring = (way_of d s).ring; news = record { request = x; available = (way_of d s).news.available; again = (way_of d s).news.again } }) s

-- a request that is there stays
abbrev lasting : Direction → State → State → State
lasting d before after = with_request d ((way_of d before).news.request || (way_of d after).news.request) after

-- requests service for the way d for ever
abbrev pub request_for_ever : Direction → Call → World → Did
request_for_ever d = after_sight (λ c w a. true) (lasting d)

-- goes on requesting service for the way d when the status byte is given
abbrev pub status_leaves_request : Direction → Call → World → Did
status_leaves_request d = after_sight (λ c w a. any (told d c w a)) (lasting d)

-- goes on requesting service for the way d when the last byte is fetched
abbrev pub last_leaves_request : Direction → Call → World → Did
last_leaves_request d = after_sight (λ c w a. any (fetched d c w a)) (lasting d)

-- never requests service for the way d
abbrev pub never_requests : Direction → Call → World → Did
never_requests d = after_sight (λ c w a. any (left d c w a)) (λ before after. with_request d (way_of d before).news.request after)

-- requests service for the way d at every byte, also where others wait
abbrev pub requests_each_byte : Direction → Call → World → Did
requests_each_byte d = after_sight (λ c w a. any (left d c w a)) (λ before after. with_request d true after)

-- the answer with a request in it
abbrev requesting : Said → Said
requesting a =
    of_frame_said (λ k d. cond (carries_service k) (frame (k / 2 * 2 + 1) d) (frame k d)) (of_lines (λ n. cond (leb 256 n) (lines n) (lines (n + 256))) a) a

-- shows a service request on both sides, with nothing waiting
abbrev pub shows_always : Call → World → Did
shows_always = answering (λ c w a. requesting a)
