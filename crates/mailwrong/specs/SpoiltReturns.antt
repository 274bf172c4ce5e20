-- Mailboxes that judge the return of their own frame wrongly, or send another thing after it than is due.
use Rattle.std.specs.Prelude.{ℕ, false, cond, ◌&&◌, eqb}
use Rattle.frame.specs.Frame.{is_data}
use Rattle.answers.specs.Answers.{Said, frame}
use Rattle.mailstate.specs.declared.State.{State}
use Rattle.mailstate.specs.State.{with_talker, with_source}
use Rattle.mailbox.specs.Calls.{Call, on, loop_frame, World, Did, step}
use Rattle.maillaws.specs.Sights.{to_loop, of_frame_said, on_frame}
use Rattle.mailwrong.specs.Spoiling.{instead, leaving, after_sight, answering, having}
use Rattle.mailwrong.specs.SpoiltFetches.{takes_from}

-- another frame is under way, and is not the last
abbrev pub under_way_as : ℕ → State → State
under_way_as f s = with_talker s (record { role = s.talker.role; under = record { frame = f; finishing = false } })

-- goes on sending when its data frame comes back changed
abbrev pub ignores_damage : Call → World → Did
ignores_damage =
    instead (λ c w. on_frame (λ f. is_data f && eqb w.state.talker.role.phase 2) false c) (λ c w. step (on (loop_frame w.state.talker.under.frame)) w)

abbrev undamaged : Said → Said
undamaged a = of_frame_said (λ k d. cond (eqb k 5 && eqb d 65) (frame 5 64) a) a a

-- answers 5,64 in the place of 5,65 when its frame comes back changed
abbrev pub hides_damage : Call → World → Did
hides_damage = answering (λ c w a. on_frame (λ f. cond (is_data f) (undamaged a) a) a c)

-- takes no notice of not ready for data while it sends
abbrev pub never_finishes : Call → World → Did
never_finishes = leaving (λ c w v. having (λ s. under_way_as s.talker.under.frame s) v)

-- records 0 as the frame under way, so that its first data frame is its last and ends with 5,65
abbrev pub awaits_frame0 : Call → World → Did
awaits_frame0 = after_sight (takes_from to_loop) (λ before after. under_way_as 0 after)

-- records that what it sends is an ID, so that it sends one byte for each send data
abbrev pub sends_one : Call → World → Did
sends_one = after_sight (takes_from to_loop) (λ before after. with_source after 10)
