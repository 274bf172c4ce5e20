-- The news on the loop: bit 0 of the status byte says that something came, until a status byte that showed it is back unchanged.
use Rattle.std.specs.Prelude.{ℕ, ◌%◌, ◌≡◌, Bool, true, false, cond, ◌&&◌, ◌||◌, List, [], ◌∷◌, eqb}
use Rattle.machine.specs.Course.{of, Without, Each}
use Rattle.machine.specs.Machine.{of_calls, of_between}
use Rattle.machine.specs.Rounds.{Round, sent_and_back}
use Rattle.frame.specs.Frame.{control_of, made, is_data, same_apart}
use Rattle.answers.specs.Answers.{Said}
use Rattle.mailbox.specs.Calls.{Call, World, on, loop_frame}
use Rattle.maillaws.specs.Mailboxes.{Law, Saw}
use Rattle.maillaws.specs.Sights.{to_loop, news_of, waits, taken, any, on_frame, loop_addressed, restarts, status_of, comes, told}

-- HP-IL status byte: bit 0, data available
abbrev pub shows_news : ℕ → Bool
shows_news g = eqb (g % 2) 1

-- those of the status bytes that show it
abbrev pub showing : List ℕ → List ℕ
showing [] = []
showing (g ∷ gs) = cond (shows_news g) (g ∷ []) []

-- a frame of ours is under way no more: a data frame taken is its return, and a command makes an active talker merely addressed
unfoldable pub ends_way : Call → World → Said → Bool
ends_way c w a = on_frame (λ f. taken a && (is_data f || eqb (control_of f) 4)) (restarts c a) c

-- the data frame taken is the byte g, unchanged but for the service bit
unfoldable pub gives_back : ℕ → Call → World → Said → Bool
gives_back g c w a = on_frame (λ f. taken a && (is_data f && same_apart f (made 0 g))) false c

-- the way of a status byte that shows the news round the loop
abbrev pub news_round : Round World Call Said ℕ
news_round = record { sent = λ c w a. showing (told to_loop c w a); ends = ends_way; back = gives_back }

-- something waits for the loop after the call
abbrev pub StillWaits : Saw → Type 0
StillWaits s = any (waits to_loop s.after) ≡ true

-- the news stays: since something came into the empty way, as long as the way has not been empty again and no status byte that was sent since
-- and showed it has come back unchanged, every status byte shows it
abbrev pub NewsStays : Law
NewsStays =
    of_between
    (λ s ss t. of (comes to_loop) s ≡ true → Each StillWaits ss → sent_and_back news_round ss ≡ false → (g : ℕ) → of (told to_loop) t ≡ g ∷ [] →
    shows_news g ≡ true)

-- Send status: the news is cleared when the byte that showed it is back unchanged and nothing came into the empty way since it was sent
abbrev pub NewsEnds : Law
NewsEnds =
    of_between
    (λ s ss t. (g : ℕ) → of (told to_loop) s ≡ g ∷ [] → shows_news g ≡ true → Without (comes to_loop) ss → Without ends_way ss →
    of (gives_back g) t ≡ true → (news_of to_loop t.after).available ≡ false)

-- Send status: an addressed talker that has nothing under way sends the byte of bits 6 and 0 as they were before the call, and the request
-- ends with it
pub record StatusRight (s : Saw) : Type 0 where
  pub byte : of (told to_loop) s ≡ status_of (news_of to_loop s.before) ∷ []
  pub ends : (news_of to_loop s.after).request ≡ false

abbrev pub StatusTold : Law
StatusTold = of_calls (λ s. s.call ≡ on (loop_frame (made 5 97)) → taken s.answer ≡ true → loop_addressed s.before ≡ true → StatusRight s)
