-- Mailboxes that judge the return of their own frame wrongly, or send another thing after it than is due. Assumes nothing.
use mathlib.Core.Path.{refl}
use mathlib.Core.Bool.{true, false}
use mathlib.Core.List.{[], ◌∷◌}
use Rattle.frame.specs.Frame.{made}
use Rattle.answers.specs.Answers.{frame}
use Rattle.mailstate.specs.declared.State.{State}
use Rattle.mailstate.specs.State.{with_source}
use Rattle.mailbox.specs.Calls.{Call, Did}
use Rattle.maillaws.specs.Sights.{to_loop}
use Rattle.maillaws.specs.OwnReturns.{ReturnsJudged}
use Rattle.refuting.specs.WrittenOut.{Turn}
use Rattle.refuting.proofs.Apart.{lists_differ, answers_differ}
use Rattle.refuting.proofs.StandsIn.{holds, no_round}
use Rattle.refuting.proofs.ByTurns.{in_between}
use Rattle.mailwrong.specs.Spoiling.{having}
use Rattle.mailwrong.specs.MailTrials.{cells_for, waiting, fetcher, one_sent, takes, asks}
use Rattle.mailwrong.specs.MailTurns.{mail, answers}
use Rattle.mailwrong.specs.SpoiltReturns.{under_way_as, ignores_damage, hides_damage, never_finishes, awaits_frame0, sends_one}
use Rattle.mailwrong.specs.BrokenMail.{Breaks}
use Rattle.mailwrong.proofs.MailComputing.{computes}

-- ---- the first byte of the device ID is 0,72

-- 0,51 comes in its place, and "P" follows
pub ignores_damage_falls : Breaks ignores_damage ReturnsJudged
unfolding computes
ignores_damage_falls law =
    answers_differ _ _ refl
    ((law (takes 5 98) [] (takes 0 51) (fetcher to_loop) tt tt tt false (made 0 72) (made 0 51) refl refl refl refl refl).damaged refl)

-- 0,51 comes in its place, and 5,64 is answered
pub hides_damage_falls : Breaks hides_damage ReturnsJudged
unfolding computes
hides_damage_falls law =
    answers_differ _ _ refl
    ((law (takes 5 98) [] (takes 0 51) (fetcher to_loop) tt tt tt false (made 0 72) (made 0 51) refl refl refl refl refl).damaged refl)

-- the status byte 0,0 is sent, 0,1 comes in its place, and 5,64 is answered
pub hides_damage_of_status : Breaks hides_damage ReturnsJudged
unfolding computes
hides_damage_of_status law =
    answers_differ _ _ refl
    ((law (takes 5 97) [] (takes 0 1) (fetcher to_loop) tt tt tt true (made 0 0) (made 0 1) refl refl refl refl refl).damaged refl)

-- 5,66 comes, and then 0,72 unchanged, and "P" follows
pub never_finishes_falls : Breaks never_finishes ReturnsJudged
unfolding computes
never_finishes_falls law =
    answers_differ _ _ refl
    ((law (takes 5 98) (takes 5 66 ∷ []) (takes 0 72) (fetcher to_loop) tt tt (tt, tt) false (made 0 72) (made 0 72) refl refl refl refl refl).ended refl refl)

-- ---- "2" with its end mark is sent, is back unchanged, and "5" waits

first_sent : (State → State) → Turn Call Did
first_sent change = answers (asks to_loop) (frame 2 50) (having change one_sent)

pub awaits_frame_0_falls : Breaks awaits_frame0 ReturnsJudged
unfolding computes first_sent
awaits_frame_0_falls law =
    lists_differ _ _ refl
    (rw (holds (cells_for to_loop) 1 1 refl)
    at ((in_between mail awaits_frame0 ReturnsJudged (waiting to_loop 2 (fetcher to_loop)) (first_sent (under_way_as 0)) [] (takes 2 50)
    (rw (holds (cells_for to_loop) 0 2 refl, no_round 2 1 refl), tt) tt (tt, tt) law
    false (made 2 50) (made 2 50) refl refl refl refl refl).next refl refl refl).0)

pub sends_one_falls : Breaks sends_one ReturnsJudged
unfolding computes first_sent
sends_one_falls law =
    lists_differ _ _ refl
    (rw (holds (cells_for to_loop) 1 1 refl)
    at ((in_between mail sends_one ReturnsJudged (waiting to_loop 2 (fetcher to_loop)) (first_sent (λ s. with_source s 10)) [] (takes 2 50)
    (rw (holds (cells_for to_loop) 0 2 refl, no_round 2 1 refl), tt) tt (tt, tt) law
    false (made 2 50) (made 2 50) refl refl refl refl refl).next refl refl refl).0)
