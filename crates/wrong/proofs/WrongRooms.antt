-- Every bridge that tells another room than there is breaks a law of the room. Assumes nothing.
use Prim.Native.Nat.{ℕ}
use mathlib.Core.Path.{refl}
use mathlib.Core.Bool.{true, false}
use mathlib.Core.List.{List, [], ◌∷◌}
use borrow.Author.Tests.{leb-true}
use Rattle.answers.specs.Answers.{done, frame}
use Rattle.state.specs.State.{with_tx}
use Rattle.bridge.specs.Calls.{line_byte, loop_frame, on, World}
use Rattle.laws.specs.Rooms.{RoomTold, RoomHolds, RoomTakes}
use Rattle.refuting.specs.SmallRings.{ring}
use Rattle.refuting.proofs.Apart.{numbers_differ, lists_differ}
use Rattle.refuting.proofs.StandsIn.{holds, no_round}
use Rattle.wrong.specs.Seeing.{having}
use Rattle.wrong.specs.SmallWorlds.{fresh, listening}
use Rattle.wrong.specs.Trials.{one_to_four, came_in}
use Rattle.wrong.specs.WrongRooms.{tells_before, tells_the_other, tells_when_refused, tells_if_stored}
use Rattle.wrong.specs.Broken.{BreaksTelling}
use Rattle.wrong.proofs.Computing.{computes}
use Rattle.wrong.proofs.Trying.{told_since, told_between}
use Rattle.wrong.proofs.Written.{Turn, tells, does}

-- ---- what is told

-- of four places one is taken, and then two
pub tells_before_falls : BreaksTelling tells_before RoomTold
unfolding computes
tells_before_falls law =
    numbers_differ _ _ refl (rw (no_round 4 1 refl, holds one_to_four 0 2 refl) at (law (on (line_byte 50)) (came_in 1 false false) tt))

-- at a go, which is 17: the transmit store has three places free, and the receive store two
pub tells_the_other_falls : BreaksTelling tells_the_other RoomTold
unfolding computes
tells_the_other_falls law = numbers_differ _ _ refl (rw (holds one_to_four 0 2 refl) at (law (on (line_byte 17)) (came_in 2 false false) tt))

-- 2,048 is no frame
pub tells_when_refused_falls : BreaksTelling tells_when_refused RoomTold
unfolding computes
tells_when_refused_falls law = numbers_differ _ _ refl (law (on (loop_frame 2048)) fresh tt)

-- a go
pub tells_if_stored_falls : BreaksTelling tells_if_stored RoomTold
unfolding computes
tells_if_stored_falls law = numbers_differ _ _ refl (rw (holds one_to_four 0 2 refl) at (law (on (line_byte 17)) (came_in 2 false false) tt))

-- ---- what is told of the receive store is there

-- it tells two, and of the next two bytes one is lost
pub tells_before_loses : BreaksTelling tells_before RoomHolds
unfolding computes
tells_before_loses law =
    lists_differ _ _ refl
    (told_since tells_before RoomHolds (came_in 2 false false) (tells (line_byte 51) done 2 (came_in 3 true false))
    (tells (line_byte 52) done 1 (came_in 4 true false) ∷ does tells_before (on (line_byte 53)) (came_in 4 true false) ∷ [])
    (rw (no_round 4 2 refl), (rw (no_round 4 3 refl), (refl, tt))) refl law refl (leb-true _ _ refl))

-- it tells three, and the next byte is lost
pub tells_the_other_loses : BreaksTelling tells_the_other RoomHolds
unfolding computes
tells_the_other_loses law =
    lists_differ _ _ refl
    (told_since tells_the_other RoomHolds (came_in 3 true false) (tells (line_byte 52) done 3 (came_in 4 true false))
    (does tells_the_other (on (line_byte 53)) (came_in 4 true false) ∷ []) (rw (no_round 4 3 refl), (refl, tt)) refl law refl (leb-true _ _ refl))

-- ---- what is told of the transmit store is there

-- a listener that has kept k of 65, 66 and 67
abbrev kept : ℕ → World
kept k = having (λ s. with_tx s (ring 3 0 k)) listening

-- all three come, and these rooms are told
abbrev second : ℕ → ℕ → List Turn
second m n = tells (loop_frame 66) (frame 0 66) m (kept 2) ∷ tells (loop_frame 67) (frame 0 67) n (kept 3) ∷ []

-- it tells three, two are added, and the one after these is busy
pub tells_before_is_busy : BreaksTelling tells_before RoomTakes
unfolding computes
tells_before_is_busy law =
    told_between tells_before RoomTakes listening (tells (loop_frame 65) (frame 0 65) 3 (kept 1)) (second 2 1) (on (loop_frame 68))
    (rw (no_round 3 0 refl), (rw (no_round 3 1 refl), (rw (no_round 3 2 refl), tt))) refl law 68 refl refl (leb-true _ _ refl) refl

-- it tells four, two are added, and the one after these is busy
pub tells_the_other_is_busy : BreaksTelling tells_the_other RoomTakes
unfolding computes
tells_the_other_is_busy law =
    told_between tells_the_other RoomTakes listening (tells (loop_frame 65) (frame 0 65) 4 (kept 1)) (second 4 4) (on (loop_frame 68))
    (rw (no_round 3 0 refl), (rw (no_round 3 1 refl), (rw (no_round 3 2 refl), tt))) refl law 68 refl refl (leb-true _ _ refl) refl
