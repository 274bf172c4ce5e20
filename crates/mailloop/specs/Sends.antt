-- What a mailbox sends on the loop: what waits for it, its status byte and its two IDs; and how sending ends.
use Rattle.std.specs.Prelude.{ℕ, ◌+◌, ◌/◌, ◌%◌, Bool, cond, List, [], ◌∷◌, eqb, leb, get_or}
use Rattle.frame.specs.Frame.{made, with_service}
use Rattle.role.specs.Role.{active_data, active_status}
use Rattle.talker.specs.UnderWay.{talking, ended_talker}
use Rattle.store.specs.Ring.{held}
use Rattle.news.specs.News.{news_byte, sent_status}
use Rattle.way.specs.Way.{fetched, told}
use Rattle.mailstate.specs.declared.State.{State}
use Rattle.mailstate.specs.Outcome.{Outcome}
use Rattle.answers.specs.declared.Answer.TheVariants.{Frame}
use Rattle.mailstate.specs.State.{with_to_loop, with_talker, with_source}

-- ---- cells

-- a cell is a byte, and bit 8 marks an end; the bits above do not count
abbrev pub byte_of : ℕ → ℕ
byte_of c = c % 256

abbrev pub marked : ℕ → Bool
marked c = eqb (c / 256 % 2) 1

-- the frame of a cell: an end byte where it is marked
abbrev pub frame_of : ℕ → ℕ
frame_of c = made (cond (marked c) 2 0) (byte_of c)

-- ---- the service bit, and how sending ends

-- set where service was requested before the call, and else as it was
unfoldable pub serviced : State → ℕ → ℕ
serviced s f = cond s.toloop.news.request (with_service f) f

-- 5,64 or 5,65, which ends our sending
unfoldable pub ended : State → ℕ → Outcome
ended s d = record { state = with_talker s (ended_talker s.talker); answer = Frame (made 5 d) }

-- ---- what is sent

-- the frame f of this source goes out: the state before the call, and the one after what it took off
unfoldable pub sends : State → State → ℕ → ℕ → Outcome
sends before after f source =
    record { state = with_source (with_talker after (talking after.talker active_data f)) source; answer = Frame (serviced before f) }

-- Send data: the oldest cell that waits for the loop, or the end of sending. The row names the other buffer, which is the manual's slip:
-- "Retrieving data" has the right one
unfoldable pub send_waiting : State → List ℕ → Outcome
send_waiting s cells =
    cond (eqb s.toloop.ring.len 0) (ended s 64)
    (sends s (with_to_loop s (fetched s.toloop)) (frame_of (get_or (held cells s.toloop.ring) 0 0)) 0)

-- Send device ID: HP82169A, carriage return, line feed
abbrev pub device_id : List ℕ
device_id = 72 ∷ 80 ∷ 56 ∷ 50 ∷ 49 ∷ 54 ∷ 57 ∷ 65 ∷ 13 ∷ 10 ∷ []

-- its byte after n of them
unfoldable pub id_byte : ℕ → ℕ
id_byte n = get_or device_id n 10

-- that byte goes out, or sending ends
unfoldable pub send_id : State → ℕ → Outcome
send_id s n = cond (leb 10 n) (ended s 64) (sends s s (made 0 (id_byte n)) (n + 1))

-- Send accessory ID: one byte, with nothing after it
unfoldable pub send_accessory : State → Outcome
send_accessory s = sends s s (made 0 67) 10

-- Send status: the byte of the moment goes out, and with it the request ends
unfoldable pub send_status : State → Outcome
send_status s =
    record {
      state = with_talker (with_to_loop s (told s.toloop (sent_status s.toloop.news)))
          (talking s.talker active_status (made 0 (news_byte s.toloop.news)));
      answer = Frame (serviced s (made 0 (news_byte s.toloop.news)));
    }

-- the next frame of an active talker, from where the one before came
unfoldable pub send_next : State → List ℕ → Outcome
send_next s cells = cond (eqb s.source 0) (send_waiting s cells) (send_id s s.source)
