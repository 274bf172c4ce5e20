-- Bridges that hold the line off at the wrong time and so lose a byte: runs that are written out where bytes are stored. Assumes nothing.
use native.Mathlib.Omega.{arith}
use mathlib.Core.Path.{refl}
use mathlib.Core.Bool.{true, false, false≢true}
use mathlib.Core.List.{List, [], ◌∷◌}
use Rattle.store.proofs.Laws.{wrap_high}
use Rattle.answers.specs.Answers.{frame}
use Rattle.line.specs.HoldingOff.{with_holding}
use Rattle.bridge.specs.Calls.{on, line_byte, loop_frame}
use Rattle.laws.specs.Demands.{NoneLost}
use Rattle.laws.specs.Holding.{HoldingGoes}
use Rattle.refuting.proofs.Apart.{lists_differ}
use Rattle.refuting.proofs.StandsIn.{holds, no_round}
use Rattle.wrong.specs.Seeing.{having}
use Rattle.wrong.specs.Trials.{full_of, one_to_four, came_in, talker_came_in, one_gone, send_data}
use Rattle.wrong.specs.WrongHolding.{begins_late, ends_at_margin}
use Rattle.wrong.specs.Broken.{Breaks}
use Rattle.wrong.proofs.Computing.{computes}
use Rattle.wrong.proofs.Written.{Turn, comes_in, does, Does, leaves}
use Rattle.wrong.proofs.Trying.{in_run}

-- ---- when holding off begins and ends

-- the third byte of four leaves one free
pub begins_late_falls : Breaks begins_late HoldingGoes
unfolding computes
begins_late_falls law = false≢true (law (on (line_byte 51)) (came_in 2 false false) tt)

-- a send leaves one free, where two end it
pub ends_at_margin_falls : Breaks ends_at_margin HoldingGoes
unfolding computes
ends_at_margin_falls law =
    false≢true
    (rw (holds one_to_four 0 4 refl) at (law (on (loop_frame send_data)) (having (λ s. with_holding s true) (full_of one_to_four)) tt))

-- ---- no byte is lost, where at most one arrives in each spell

-- the fourth byte begins holding off, and the fifth is lost
five_come : List Turn
five_come =
    comes_in 51 (came_in 3 false false)
    ∷ comes_in 52 (came_in 4 true false)
    ∷ does begins_late (on (line_byte 53)) (came_in 4 true false)
    ∷ []

pub begins_late_loses : Breaks begins_late NoneLost
unfolding computes five_come
begins_late_loses law =
    lists_differ _ _ refl
    (in_run begins_late NoneLost (came_in 2 false false) five_come (rw (no_round 4 2 refl), (rw (no_round 4 3 refl), (refl, tt))) refl law
    refl refl refl (omega arith) (omega arith, tt))

-- one byte arrives in the first spell; a send ends it with one free; the next byte begins the second, and one more is lost
two_spells : List Turn
two_spells =
    comes_in 51 (talker_came_in 3 true)
    ∷ comes_in 52 (talker_came_in 4 true)
    ∷ leaves (loop_frame send_data) (frame 0 49) (one_gone 4 3 false)
    ∷ comes_in 49 (one_gone 5 4 true)
    ∷ does ends_at_margin (on (line_byte 50)) (one_gone 5 4 true)
    ∷ []

ends_at_margin_runs : Does ends_at_margin (talker_came_in 2 false) two_spells
unfolding computes two_spells
ends_at_margin_runs = (
  rw (no_round 4 2 refl),
  (rw (no_round 4 3 refl), (rw (holds one_to_four 0 4 refl, no_round 4 1 refl), (rw (wrap_high 4 4 (omega arith)), (refl, tt)))),
)

pub ends_at_margin_loses : Breaks ends_at_margin NoneLost
unfolding computes two_spells
ends_at_margin_loses law =
    lists_differ _ _ refl
    (in_run ends_at_margin NoneLost (talker_came_in 2 false) two_spells ends_at_margin_runs refl law
    refl refl refl (omega arith) (omega arith, (omega arith, tt)))
