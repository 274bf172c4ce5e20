-- Bridges that judge wrongly what comes back, or finish wrongly.
use Rattle.std.specs.Prelude.{ℕ, Bool, false, cond, ◌&&◌, not, eqb}
use Rattle.frame.specs.Frame.{made, is_data}
use Rattle.role.specs.Role.{active_data, is_active}
use Rattle.answers.specs.Answers.{frame}
use Rattle.talker.specs.Talker.{no_frame}
use Rattle.talker.specs.UnderWay.{ended_talker}
use Rattle.state.specs.State.{with_talker}
use Rattle.bridge.specs.Calls.{Call, World, world, Did}
use Rattle.laws.specs.Observers.{any, on_frame, equal_return, sent}
use Rattle.wrong.specs.Changing.{answering, with_under}
use Rattle.wrong.specs.Seeing.{Sight, after_sight, instead_at}

-- a data frame taken while ours is under way
abbrev pub is_return : World → ℕ → Bool
is_return w f = is_data f && is_active w.state.talker.role

-- one that is not the very frame under way, its service bit and all
abbrev pub not_the_very : Sight
not_the_very c w a = on_frame (λ f. is_return w f && not (eqb f w.state.talker.under.frame)) false c

-- Slips we have seen, the third: a return to which another device has added its service bit is damage to it
abbrev pub compares_service : Call → World → Did
compares_service =
    instead_at not_the_very
    (λ c w. record { said = frame 5 65; room = 0; world = world (with_talker w.state (ended_talker w.state.talker)) w.rx w.tx })

-- records frame 0 as under way for every data frame that it sends
abbrev pub records_frame0 : Call → World → Did
records_frame0 = after_sight (λ c w a. any (sent c w a)) (λ before after. with_under after no_frame)

-- answers damage with 5,64
abbrev pub damage_gives64 : Call → World → Did
damage_gives64 = answering (λ c w a. cond (on_frame (λ f. is_return w f && not (equal_return w.state f)) false c) (frame 5 64) a)

-- ready 66 taken while active with data
abbrev pub asks_to_finish : Sight
asks_to_finish c w a = on_frame (λ f. eqb f (made 5 66) && eqb w.state.talker.role.phase active_data) false c

-- finishes at once at ready 66, and does not wait for the frame under way
abbrev pub finishes_at_once : Call → World → Did
finishes_at_once = after_sight asks_to_finish (λ before after. with_talker after (ended_talker after.talker))

-- takes no notice of ready 66, and never finishes
abbrev pub never_finishes : Call → World → Did
never_finishes = after_sight asks_to_finish (λ before after. with_under after before.talker.under)
