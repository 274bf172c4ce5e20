-- Bridges whose counts are made up, each refuted by one call. Assumes nothing.
use native.Mathlib.Omega.{arith}
use mathlib.Core.Path.{refl}
use mathlib.Core.Bool.{false}
use mathlib.Core.List.{[], ◌∷◌}
use Rattle.bridge.specs.Calls.{World, on, reset, line_byte, line_break, loop_frame}
use Rattle.laws.specs.Counting.{CountsGo, CountsSince, Small}
use Rattle.refuting.proofs.Apart.{numbers_differ}
use Rattle.wrong.specs.Trials.{full, came_in, send_status, clear_all}
use Rattle.wrong.specs.WrongSends.{swallows_the_point}
use Rattle.wrong.specs.WrongTelling.{loses_unnoted}
use Rattle.wrong.specs.WrongCounts.{counts_every_call, counts_status, restart_keeps_counts, clear_restarts_counts}
use Rattle.wrong.specs.Broken.{Breaks}
use Rattle.wrong.proofs.Computing.{computes}

-- one byte came in
abbrev came : World
came = came_in 1 false false

small_came : Small came
unfolding computes
small_came = record { stored = omega arith; lost = omega arith; sent = omega arith }

small_full : Small full
unfolding computes
small_full = record { stored = omega arith; lost = omega arith; sent = omega arith }

-- no byte is stored by a break
pub counts_every_call_falls : Breaks counts_every_call CountsGo
unfolding computes
counts_every_call_falls law = numbers_differ _ _ refl (law (on line_break ∷ []) came tt (tt, tt) refl small_came).stored

-- no data frame is sent by status
pub counts_status_falls : Breaks counts_status CountsGo
unfolding computes
counts_status_falls law = numbers_differ _ _ refl (law (on (loop_frame send_status) ∷ []) full tt (tt, tt) refl small_full).sent

-- the point is accepted and not counted
pub swallows_the_point_miscounts : Breaks swallows_the_point CountsGo
unfolding computes
swallows_the_point_miscounts law = numbers_differ _ _ refl (law (on (line_byte 46) ∷ []) came tt (omega arith, tt) refl small_came).stored

-- a byte is lost and not counted
pub loses_unnoted_miscounts : Breaks loses_unnoted CountsGo
unfolding computes
loses_unnoted_miscounts law = numbers_differ _ _ refl (law (on (line_byte 51) ∷ []) full tt (omega arith, tt) refl small_full).lost

-- a device clear takes the byte that came in from the count
pub clear_restarts_counts_falls : Breaks clear_restarts_counts CountsGo
unfolding computes
clear_restarts_counts_falls law = numbers_differ _ _ refl (law (on (loop_frame clear_all) ∷ []) came tt (tt, tt) refl small_came).stored

-- at a reset, with nothing after it
pub counts_every_call_falls_since : Breaks counts_every_call CountsSince
unfolding computes
counts_every_call_falls_since law = numbers_differ _ _ refl (law (on reset) [] came tt tt tt refl refl).stored

pub restart_keeps_counts_falls : Breaks restart_keeps_counts CountsSince
unfolding computes
restart_keeps_counts_falls law = numbers_differ _ _ refl (law (on reset) [] came tt tt tt refl refl).stored
