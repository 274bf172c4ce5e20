-- Every bridge that notes what happened wrongly breaks a law of events; most do so for every event. Assumes nothing.
use native.Mathlib.Omega.{arith}
use mathlib.Core.Path.{◌≡◌, refl, sym, ap, ◌∙◌}
use mathlib.Core.Bool.{Bool, true, false, false≢true, true≢false}
use mathlib.Core.List.{List, [], ◌∷◌}
use lib.Dec.{eqb}
use Rattle.machine.specs.Course.{Without}
use Rattle.machine.specs.Machine.{course}
use Rattle.status.specs.declared.Events.{Events}
use Rattle.state.specs.State.{no_events}
use Rattle.bridge.specs.Calls.{reset, line_byte, line_break, key, Call, create, on, World, Did}
use Rattle.laws.specs.Bridges.{bridge}
use Rattle.laws.specs.Events.{Event, broken, overrun, pressed, noted, happens, Alone}
use Rattle.laws.specs.Cleared.{NotInvented, NotAtStart}
use Rattle.wrong.specs.SmallWorlds.{fresh, holding_bytes, happened, takes_command}
use Rattle.wrong.specs.Trials.{forbidding}
use Rattle.wrong.specs.Seeing.{noting}
use Rattle.wrong.specs.WrongEvents.{break_empties, break_presses, press_permits, press_forgets}
use Rattle.wrong.specs.WrongEvents.{command_sets, line_byte_sets, clear_keeps, reset_keeps, create_sets}
use Rattle.wrong.specs.Broken.{Breaks}
use Rattle.wrong.proofs.Computing.{computes}

-- ---- a break and a press that do more

pub break_empties_falls : Breaks break_empties (Alone broken)
unfolding computes
break_empties_falls law = true≢false (ap (λ (w : World). eqb w.state.rx.len 0) (law (on line_break) (holding_bytes 2) tt refl).rest)

pub break_presses_falls : Breaks break_presses (Alone broken)
unfolding computes
break_presses_falls law = true≢false ((law (on line_break) fresh tt refl).seen pressed)

pub press_permits_falls : Breaks press_permits (Alone pressed)
unfolding computes
press_permits_falls law = false≢true (ap (λ (w : World). w.state.line.forbidden) (law (on key) (forbidding fresh) tt refl).rest)

pub press_forgets_falls : Breaks press_forgets (Alone pressed)
unfolding computes
press_forgets_falls law = false≢true ((law (on key) (happened overrun) tt refl).seen overrun)

-- ---- every event

-- what is set is noted
as_noted : (e : Event) (b : Bool) (x : Events) → noted e (noting e b x) ≡ b
as_noted broken b x = refl
as_noted overrun b x = refl
as_noted pressed b x = refl

none_noted : (e : Event) → noted e no_events ≡ false
none_noted broken = refl
none_noted overrun = refl
none_noted pressed = refl

-- none of them happens at a command, nor where a line byte is stored
abbrev one_command : List Call
one_command = takes_command 1 ∷ []

quiet_command : (e : Event) (B : Call → World → Did) → Without (happens e) (course (bridge B) one_command fresh)
unfolding computes
quiet_command broken B = refl
quiet_command overrun B = refl
quiet_command pressed B = refl

abbrev one_byte : List Call
one_byte = (on (line_byte 60)) ∷ []

quiet_byte : (e : Event) (B : Call → World → Did) → Without (happens e) (course (bridge B) one_byte fresh)
unfolding computes
quiet_byte broken B = refl
quiet_byte overrun B = refl
quiet_byte pressed B = refl

pub command_sets_falls : (e : Event) → Breaks (command_sets e) (NotInvented e)
unfolding computes
command_sets_falls e law =
    true≢false (sym (as_noted e true no_events) ∙ law one_command fresh tt (tt, tt) (none_noted e) (quiet_command e (command_sets e)))

pub line_byte_sets_falls : (e : Event) → Breaks (line_byte_sets e) (NotInvented e)
unfolding computes
line_byte_sets_falls e law =
    true≢false (sym (as_noted e true no_events) ∙ law one_byte fresh tt (omega arith, tt) (none_noted e) (quiet_byte e (line_byte_sets e)))

-- what was noted, and is set again as it was
as_kept : (e : Event) (x : Events) → noted e (noting e (noted e (noting e true no_events)) x) ≡ true
as_kept e x = as_noted e (noted e (noting e true no_events)) x ∙ as_noted e true no_events

pub clear_keeps_falls : (e : Event) → Breaks (clear_keeps e) (NotAtStart e)
unfolding computes
clear_keeps_falls e law = true≢false (sym (as_kept e no_events) ∙ law (takes_command 20) (happened e) tt refl)

pub reset_keeps_falls : (e : Event) → Breaks (reset_keeps e) (NotAtStart e)
unfolding computes
reset_keeps_falls e law = true≢false (sym (as_kept e no_events) ∙ law (on reset) (happened e) tt refl)

pub create_sets_falls : (e : Event) → Breaks (create_sets e) (NotAtStart e)
unfolding computes
create_sets_falls e law = true≢false (sym (as_noted e true no_events) ∙ law (create 1) fresh tt refl)
