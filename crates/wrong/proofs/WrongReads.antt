-- Bridges that lose what they accepted, or keep what they should not, each refuted by one call. Assumes nothing.
use native.Mathlib.Omega.{arith}
use mathlib.Core.Path.{refl}
use mathlib.Core.Bool.{false}
use mathlib.Core.List.{[], ◌∷◌}
use Rattle.bridge.specs.Calls.{on, reset, line_byte, loop_frame}
use Rattle.laws.specs.Demands.{FramesRead}
use Rattle.laws.specs.SendRule.{FramesSince}
use Rattle.refuting.proofs.Apart.{lists_differ}
use Rattle.refuting.proofs.StandsIn.{holds}
use Rattle.wrong.specs.Trials.{full, two_lines, came_in, one_to_four, send_data, clear_all}
use Rattle.wrong.specs.WrongSends.{impatient, repeats, swallows_the_point, clear_keeps_store, restart_keeps_store}
use Rattle.wrong.specs.Broken.{Breaks}
use Rattle.wrong.proofs.Computing.{computes}
use Rattle.wrong.proofs.Small.{full_holds}

-- ---- the frames that are read

-- 2,49 is sent and nothing is held, where 2,49 and 2,50 were to be read
pub impatient_falls : Breaks impatient FramesRead
unfolding computes
impatient_falls law =
    lists_differ _ _ refl (rw (full_holds, holds two_lines 0 0 refl) at (law (on (loop_frame send_data) ∷ []) full tt (tt, tt) (rw full_holds)))

-- 2,49 is sent, and 2,49 and 2,50 are still to be read
pub repeats_falls : Breaks repeats FramesRead
unfolding computes
repeats_falls law =
    lists_differ _ _ refl (rw (full_holds, full_holds) at (law (on (loop_frame send_data) ∷ []) full tt (tt, tt) (rw full_holds)))

-- one byte came in, and behind it the point
pub swallows_the_point_falls : Breaks swallows_the_point FramesRead
unfolding computes
swallows_the_point_falls law =
    lists_differ _ _ refl (rw (holds one_to_four 0 1 refl) at (law (on (line_byte 46) ∷ []) (came_in 1 false false) tt (omega arith, tt) refl))

-- ---- since the store was emptied

-- a device clear, after which both lines are still read
pub clear_keeps_store_falls : Breaks clear_keeps_store FramesSince
unfolding computes
clear_keeps_store_falls law = lists_differ _ _ refl (rw full_holds at (law (on (loop_frame clear_all)) [] full tt tt tt refl refl))

-- the same at a reset, where every byte is a frame
pub restart_keeps_store_falls : Breaks restart_keeps_store FramesSince
unfolding computes
restart_keeps_store_falls law = lists_differ _ _ refl (rw full_holds at (law (on reset) [] full tt tt tt refl refl))
