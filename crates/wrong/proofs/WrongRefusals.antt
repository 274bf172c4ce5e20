-- Every bridge whose refusals or answers are wrong breaks a law of answers. Assumes nothing.
use native.Mathlib.Omega.{arith}
use mathlib.Core.Path.{refl, ap}
use mathlib.Core.Bool.{false≢true, true≢false}
use lib.Dec.{eqb}
use Rattle.frame.specs.Frame.{made}
use Rattle.answers.specs.Answers.{is_refusal}
use Rattle.bridge.specs.Calls.{receive, write, key, ask_line_byte, show, on, World}
use Rattle.laws.specs.Answering.{AnswersSo, RefusedExactly}
use Rattle.laws.specs.Demands.{RefusedStays, OneFrameOut}
use Rattle.wrong.specs.SmallWorlds.{fresh, misfitting, listening, nearly_full, takes, takes_command}
use Rattle.wrong.specs.Changing.{heedless}
use Rattle.wrong.specs.WrongRefusals.{done_for_none, refuses_to_show, swallows_commands, swallows_stored}
use Rattle.wrong.specs.WrongRefusals.{always_busy, always_refusing, refuses_and_writes, busy_and_stores}
use Rattle.wrong.specs.Broken.{Breaks}
use Rattle.wrong.proofs.Computing.{computes}

-- ---- answers

pub done_for_none_falls : Breaks done_for_none AnswersSo
unfolding computes
done_for_none_falls law = false≢true (law (on ask_line_byte) fresh tt)

pub refuses_to_show_falls : Breaks refuses_to_show AnswersSo
unfolding computes
refuses_to_show_falls law = false≢true (law (show receive) misfitting tt)

pub swallows_commands_falls : Breaks swallows_commands OneFrameOut
unfolding computes
swallows_commands_falls law = false≢true (law (takes_command 20) fresh tt (made 4 20) refl refl)

pub swallows_stored_falls : Breaks swallows_stored OneFrameOut
unfolding computes
swallows_stored_falls law = false≢true (law (takes 0 68) listening tt (made 0 68) refl refl)

-- ---- refusals

pub always_busy_falls : Breaks always_busy RefusedExactly
unfolding computes
always_busy_falls law = true≢false ((law (takes 0 68) fresh tt).accepts refl)

pub always_refusing_falls : Breaks always_refusing RefusedExactly
unfolding computes
always_refusing_falls law = true≢false ((law (on key) fresh tt).accepts refl)

-- an end byte adds three, and there is room for one
pub never_busy_falls : Breaks (heedless 4) RefusedExactly
unfolding computes
never_busy_falls law = false≢true (ap is_refusal ((law (takes 2 68) nearly_full tt).given (λ e. omega arith)))

-- R11 carries no bit 2
pub refuses_and_writes_falls : Breaks refuses_and_writes RefusedStays
unfolding computes
refuses_and_writes_falls law = true≢false (ap (λ (w : World). eqb w.state.regs.r11 4) (law (on (write 11 4)) fresh tt refl))

pub busy_and_stores_falls : Breaks busy_and_stores RefusedStays
unfolding computes
busy_and_stores_falls law = true≢false (ap (λ (w : World). eqb w.state.tx.len 3) (law (takes 2 68) nearly_full tt refl))
