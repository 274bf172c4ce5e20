-- Mailboxes that say wrongly that they are not ready, or release another frame than they held back.
use Rattle.std.specs.Prelude.{ℕ, ◌+◌, Bool, true, false, cond, ◌&&◌, not, eqb}
use Rattle.frame.specs.Frame.{is_data}
use Rattle.answers.specs.Answers.{frame}
use Rattle.mailstate.specs.declared.Hold.{Hold}
use Rattle.mailstate.specs.State.{with_hold}
use Rattle.mailbox.specs.Calls.{Call, World, Did, step}
use Rattle.maillaws.specs.Sights.{to_bus, ring_of, on_frame, loop_listens}
use Rattle.mailwrong.specs.Spoiling.{instead, answering, having}
use Rattle.mailwrong.specs.SpoiltWays.{releases}
use Rattle.mailwrong.specs.SpoiltFetches.{unmarked}

-- a data frame comes to a listener
abbrev heard : World → Call → Bool
heard w = on_frame (λ f. is_data f && loop_listens w) false

-- it does what it would do with this held back
abbrev as_holding : Hold → Call → World → Did
as_holding h c w = step c (having (λ s. with_hold s h) w)

-- never says that it is not ready
abbrev pub never_holds : Call → World → Did
never_holds =
    instead (λ c w. heard w c)
    (λ c w.
    let other = as_holding (record { enabled = false; held = false; frame = 0 }) c w in
    record { said = other.said; world = having (λ s. with_hold s w.state.hold) other.world })

-- holds a second frame back while one is held
abbrev pub holds_two : Call → World → Did
holds_two =
    instead (λ c w. heard w c)
    (λ c w. as_holding (record { enabled = w.state.hold.enabled; held = false; frame = w.state.hold.frame }) c w)

-- the frame f is held back
abbrev holding_frame : ℕ → World → World
holding_frame f w = having (λ s. with_hold s (record { enabled = true; held = true; frame = f })) w

-- says that it is not ready only when the byte has filled the way
abbrev pub holds_late : Call → World → Did
holds_late c w =
    cond
    ((heard w c && (w.state.hold.enabled && not w.state.hold.held)) && eqb ((ring_of to_bus w).len + 1) (ring_of to_bus w).cap)
    (on_frame (λ f. record { said = frame 5 66; world = holding_frame f (step c w).world }) (step c w) c)
    (step c w)

-- ---- what goes on when not ready for data has come round

-- never releases the frame that it held back
abbrev pub never_releases : Call → World → Did
never_releases = answering (λ c w a. cond (releases w c) (frame 5 66) a)

-- releases an end byte as a byte without the mark
abbrev pub releases_unmarked : Call → World → Did
releases_unmarked = answering (λ c w a. cond (releases w c) (unmarked a) a)

-- releases the frame that came last in the place of the one that it held back
abbrev pub releases_another : Call → World → Did
releases_another c w =
    let did = step c w in
    cond (heard w c && w.state.hold.held) (record { said = did.said; world = on_frame (λ f. holding_frame f did.world) did.world c }) did
