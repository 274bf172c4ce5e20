-- Mailboxes that show a request for service on the loop wrongly.
use Rattle.std.specs.Prelude.{ℕ, cond, ◌&&◌, eqb, leb, ltb}
use Rattle.frame.specs.Frame.{made, is_data}
use Rattle.answers.specs.Answers.{frame}
use Rattle.mailbox.specs.Calls.{Call, World, Did}
use Rattle.maillaws.specs.Sights.{to_loop, news_of, of_frame_said, on_frame}
use Rattle.mailwrong.specs.Spoiling.{answering}

-- another control for the frame out, by its control and the frame taken
abbrev controlled_by : (World → ℕ → ℕ → ℕ) → Call → World → Did
controlled_by change = answering (λ c w a. on_frame (λ f. of_frame_said (λ k d. frame (change w f k) d) a a) a c)

-- shows no request in an identify frame
abbrev pub hides_in_identify : Call → World → Did
hides_in_identify = controlled_by (λ w f k. cond (leb 6 k) 6 k)

-- puts the service bit on every status byte, requested or not
abbrev pub status_requests : Call → World → Did
status_requests = controlled_by (λ w f k. cond (eqb f (made 5 97) && ltb k 4) 1 k)

-- takes the service bit of another device off the data that it passes on
abbrev pub strips_others : Call → World → Did
strips_others = controlled_by (λ w f k. cond (is_data f && eqb k 1) 0 k)

-- sets the service bit on commands too, which makes ready frames of them
abbrev pub marks_commands : Call → World → Did
marks_commands = controlled_by (λ w f k. cond (eqb k 4 && (news_of to_loop w).request) 5 k)
