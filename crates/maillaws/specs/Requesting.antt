-- Service requests of both sides: when one begins and ends, and that one shows only while something waits.
use Rattle.std.specs.Prelude.{ℕ, ◌%◌, ◌≡◌, Bool, true, false, ◌&&◌, ◌||◌, not, [], eqb, leb, ltb}
use Rattle.machine.specs.Course.{of}
use Rattle.machine.specs.Machine.{of_calls, of_between}
use Rattle.frame.specs.Frame.{control_of, has_service}
use Rattle.answers.specs.Answers.{Said, done, none, byte, frame, refused, part, cell, lines}
use Rattle.mailbox.specs.Calls.{Call, World}
use Rattle.maillaws.specs.Mailboxes.{Law, Saw}
use Rattle.maillaws.specs.Sights.{Direction, to_bus, to_loop, news_of, waits, any, on_frame, of_frame_said, fetched, clears, comes, told}

-- by its control bits, a data or an identify frame, which carry the service bit
abbrev pub carries_service : ℕ → Bool
carries_service k = ltb k 4 || ltb 5 k

-- the lines say that service is requested
abbrev pub lines_request : Said → Bool
lines_request (lines n) = leb 256 n
lines_request done = false
lines_request none = false
lines_request (byte b) = false
lines_request (frame k d) = false
lines_request (refused n) = false
lines_request (part xs) = false
lines_request (cell n) = false

-- the side sees a request: on the bus SRQ, on the loop a service bit that a data or identify frame taken did not have
unfoldable pub shows_request : Direction → Call → World → Said → Bool
shows_request to_bus c w a = lines_request a
shows_request to_loop c w a =
    on_frame (λ f. (carries_service (control_of f) && not (has_service f)) && of_frame_said (λ k d. carries_service k && eqb (k % 2) 1) false a) false c

-- a request shows only while something waits, in every run since the way was cleared
abbrev pub RequestWaits : Direction → Law
RequestWaits d = of_between (λ s ss t. of (clears d) s ≡ true → of (shows_request d) t ≡ true → any (waits d t.before) ≡ true)

-- the request over a call
pub record RequestRight (d : Direction) (s : Saw) : Type 0 where
  -- it begins when something comes into the empty way
  pub begins : of (comes d) s ≡ true → (news_of d s.after).request ≡ true
  -- it ends when the status byte is given, when the last that waits is fetched, and by a clear
  pub ends : any (of (told d) s) ≡ true → (news_of d s.after).request ≡ false
  pub spent : any (of (fetched d) s) ≡ true → waits d s.after ≡ [] → (news_of d s.after).request ≡ false
  pub cleared : of (clears d) s ≡ true → (news_of d s.after).request ≡ false
  -- and no other call changes it
  pub stays : of (comes d) s ≡ false → any (of (told d) s) ≡ false → any (of (fetched d) s) ≡ false → of (clears d) s ≡ false →
      (news_of d s.after).request ≡ (news_of d s.before).request

abbrev pub RequestGoes : Direction → Law
RequestGoes d = of_calls (RequestRight d)
