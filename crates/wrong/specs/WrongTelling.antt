-- Bridges that forget what is to be told, or tell it for ever.
use Rattle.std.specs.Prelude.{ℕ, false, ◌&&◌, ◌||◌, eqb}
use Rattle.frame.specs.Frame.{made, is_data}
use Rattle.role.specs.Role.{active_status}
use Rattle.answers.specs.Answers.{done}
use Rattle.bridge.specs.Calls.{Call, World, Did}
use Rattle.laws.specs.Events.{Event, noted}
use Rattle.laws.specs.Observers.{any, on_frame, equal_return, lost}
use Rattle.wrong.specs.Changing.{with_under}
use Rattle.wrong.specs.Seeing.{Sight, after_sight, instead_at, only, always, status_asked, with_noted}

-- a data frame comes back while status is under way, and one that is equal to it
abbrev pub status_returns : Sight
status_returns c w a = on_frame (λ f. is_data f && eqb w.state.talker.role.phase active_status) false c

abbrev pub status_returns_equal : Sight
status_returns_equal c w a = on_frame (λ f. equal_return w.state f && eqb w.state.talker.role.phase active_status) false c

-- Slips we have seen, the first: forgets it as soon as status is sent
abbrev pub forgetful : Event → Call → World → Did
forgetful e = after_sight status_asked (λ before after. with_noted e false after)

-- Slips we have seen, the second: forgets it when status comes back, also where it happened once more on the way
abbrev pub clears_though_again : Event → Call → World → Did
clears_though_again e = after_sight status_returns_equal (λ before after. with_noted e false after)

-- forgets it when status comes back, damaged or not
abbrev pub clears_on_any_return : Event → Call → World → Did
clears_on_any_return e = after_sight status_returns (λ before after. with_noted e false after)

-- never forgets it
abbrev pub stubborn : Event → Call → World → Did
stubborn e = after_sight always (λ before after. with_noted e (noted e before.notes.seen || noted e after.notes.seen) after)

-- sends one status byte and takes another, d, for its return
abbrev pub takes_for_status : ℕ → Call → World → Did
takes_for_status d = after_sight status_asked (λ before after. with_under after (record { frame = made 0 d; finishing = false }))

-- loses a byte at a full store without a sign
abbrev pub loses_unnoted : Call → World → Did
loses_unnoted = instead_at (λ c w a. any (lost c w a)) (λ c w. only done w)
