-- Bridges that judge returns wrongly or finish wrongly: the first line is sent as 2,49, and something comes back. Assumes nothing.
use Prim.Native.Nat.{ℕ}
use mathlib.Core.Path.{◌≡◌, refl}
use mathlib.Core.Bool.{true, false}
use mathlib.Core.List.{List, [], ◌∷◌, map}
use Rattle.frame.specs.Frame.{is_data}
use Rattle.role.specs.Role.{addressed, active_data}
use Rattle.store.specs.Ring.{held}
use Rattle.answers.specs.Answers.{frame}
use Rattle.bridge.specs.Calls.{Call, on, loop_frame, World, Did}
use Rattle.machine.specs.Course.{some, Without}
use Rattle.machine.specs.Machine.{Obeys}
use Rattle.laws.specs.Bridges.{bridge}
use Rattle.laws.specs.Observers.{taken}
use Rattle.laws.specs.StatusWay.{ends_way}
use Rattle.laws.specs.Returns.{Judged, finishes, ReturnsJudged}
use Rattle.refuting.specs.SmallRings.{ring}
use Rattle.refuting.proofs.Apart.{lists_differ, answers_differ}
use Rattle.refuting.proofs.StandsIn.{holds, no_round}
use Rattle.wrong.specs.Trials.{full, one_sent, two_lines, send_data, finish, first_frame, first_requested}
use Rattle.wrong.specs.WrongReturns.{compares_service, records_frame0, damage_gives64, finishes_at_once, never_finishes}
use Rattle.wrong.specs.Broken.{Breaks}
use Rattle.wrong.proofs.Computing.{computes}
use Rattle.wrong.proofs.Small.{byte_calls, full_holds}
use Rattle.wrong.proofs.Written.{Turn, called, Does, saw, seen_so, left_so, leaves}
use Rattle.wrong.proofs.Trying.{in_between}

-- 2,49 is sent, and the frame f is recorded as under way
abbrev sends : ℕ → Turn
sends f = leaves (loop_frame send_data) (frame 2 49) (one_sent active_data f)

-- ready 66 goes on, and the talker is in this phase with the frame f
abbrev passes66 : ℕ → ℕ → Turn
passes66 phase f = leaves (loop_frame finish) (frame 5 66) (one_sent phase f)

-- what the law says of the frame r that comes back, where the turns ts came in between
judged : (B : Call → World → Did) (f : ℕ) (ts : List Turn) (r : ℕ) → Does B full (sends f ∷ ts) →
    Without (λ c w a. ends_way c a) (seen_so (one_sent active_data f) ts) → byte_calls (map called ts) ≡ true → is_data r ≡ true →
    taken (B (on (loop_frame r)) (left_so (one_sent active_data f) ts)).said ≡ true → Obeys (bridge B) ReturnsJudged →
    Judged first_frame r false (some finishes (seen_so (one_sent active_data f) ts))
    (saw (on (loop_frame r)) (left_so (one_sent active_data f) ts) (B (on (loop_frame r)) (left_so (one_sent active_data f) ts)))
unfolding computes
judged B f ts r does none fair isdata answered law =
    in_between B ReturnsJudged full (sends f) ts (on (loop_frame r)) does fair law false first_frame r refl none refl isdata answered

-- the second line is held
second_holds : held two_lines (ring 6 3 3) ≡ 50 ∷ 13 ∷ 10 ∷ []
second_holds = holds two_lines 3 3 refl

-- ---- the return at once

-- 3,49 comes back and gives 5,65, where it gives the next frame
pub compares_service_falls : Breaks compares_service ReturnsJudged
unfolding computes
compares_service_falls law =
    lists_differ _ _ refl
    (rw second_holds
    at ((judged compares_service first_frame [] first_requested (rw (full_holds, no_round 6 3 refl), tt) refl refl refl refl law).next refl refl).first)

-- 2,49 comes back and gives 5,65
pub records_frame_0_falls : Breaks records_frame0 ReturnsJudged
unfolding computes
records_frame_0_falls law =
    lists_differ _ _ refl
    (rw second_holds
    at ((judged records_frame0 0 [] first_frame (rw (full_holds, no_round 6 3 refl), tt) refl refl refl refl law).next refl refl).first)

-- 0,0 comes back and gives the next frame, where it gives 5,65
pub records_frame_0_takes_damage : Breaks records_frame0 ReturnsJudged
unfolding computes
records_frame_0_takes_damage law =
    answers_differ _ _ refl
    (rw second_holds
    at ((judged records_frame0 0 [] 0 (rw (full_holds, no_round 6 3 refl), tt) refl refl refl (rw second_holds) law).damaged refl))

-- 0,0 comes back and gives 5,64
pub damage_gives_64_falls : Breaks damage_gives64 ReturnsJudged
unfolding computes
damage_gives_64_falls law =
    answers_differ _ _ refl ((judged damage_gives64 first_frame [] 0 (rw (full_holds, no_round 6 3 refl), tt) refl refl refl refl law).damaged refl)

-- ---- ready 66 in between, and then the return, which gives 5,64

-- the return goes on
pub finishes_at_once_falls : Breaks finishes_at_once ReturnsJudged
unfolding computes
finishes_at_once_falls law =
    answers_differ _ _ refl
    ((judged finishes_at_once first_frame (passes66 addressed 0 ∷ []) first_frame (rw (full_holds, no_round 6 3 refl), (refl, tt)) refl refl refl refl law
    ).ended refl refl)

-- the return gives the next frame
pub never_finishes_falls : Breaks never_finishes ReturnsJudged
unfolding computes
never_finishes_falls law =
    answers_differ _ _ refl
    (rw second_holds
    at ((judged never_finishes first_frame (passes66 active_data first_frame ∷ []) first_frame (rw (full_holds, no_round 6 3 refl), (refl, tt)) refl refl refl
    (rw second_holds) law).ended refl refl))
