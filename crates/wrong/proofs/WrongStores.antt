-- Every bridge that treats the stores wrongly breaks a law of the stores, of their places or of fitting. Assumes nothing.
use Prim.Native.Nat.{ℕ}
use native.Mathlib.Omega.{arith}
use mathlib.Core.Path.{◌≡◌, refl, ap}
use mathlib.Core.Bool.{false≢true, true≢false}
use lib.Dec.{eqb}
use Rattle.store.proofs.Laws.{wrap_low}
use Rattle.bridge.specs.Calls.{receive, transmit, write, line_byte, take_line_byte, create, on}
use Rattle.laws.specs.StorePlaces.{Places}
use Rattle.laws.specs.Fitting.{KeepsFit, CreateMakesFit, KeepsStores}
use Rattle.wrong.specs.SmallWorlds.{fresh, holding_bytes, takes_command}
use Rattle.refuting.proofs.StandsIn.{holds}
use Rattle.wrong.specs.Trials.{begun_with, one_for_the_line}
use Rattle.wrong.specs.Changing.{heedless}
use Rattle.wrong.specs.WrongStores.{one_too_far, clears_in_place, wiping, growing, clears_away, creates_alike}
use Rattle.wrong.specs.Broken.{Breaks}
use Rattle.wrong.proofs.Computing.{computes}
use Rattle.wrong.proofs.Ends.{has_at}

-- ---- places

-- the first byte goes to place 1
pub one_too_far_falls : Breaks one_too_far (Places receive)
unfolding computes
one_too_far_falls law = false≢true (ap (has_at 0 60) (law (on (line_byte 60)) fresh tt).bytes)

-- two bytes were held, and the next would go to place 2
pub clears_in_place_falls : Breaks clears_in_place (Places receive)
unfolding computes
clears_in_place_falls law =
    let z : ◌≡◌ {A = ℕ} 2 0 = rw (wrap_low 4 2 (omega arith)) at (law (takes_command 20) (holding_bytes 2) tt).next in
    omega arith

pub wiping_falls : Breaks wiping (Places transmit)
unfolding computes
wiping_falls law = true≢false (rw (holds (begun_with 65) 0 1 refl) at (ap (has_at 0 0) (law (on (take_line_byte 65)) (one_for_the_line 65) tt).bytes))

-- ---- the stores themselves

pub growing_falls : Breaks growing KeepsStores
unfolding computes
growing_falls law = true≢false (ap (λ n. eqb n 5) (law (on (line_byte 60)) (holding_bytes 4) tt).rx)

pub clears_away_falls : Breaks clears_away KeepsStores
unfolding computes
clears_away_falls law = true≢false (ap (λ n. eqb n 0) (law (takes_command 20) fresh tt).rx)

-- ---- fitting

-- R11 carries no bit 2
pub takes_any_bit_falls : Breaks (heedless 7) KeepsFit
unfolding computes
takes_any_bit_falls law = false≢true (law (on (write 11 4)) fresh tt refl)

-- go becomes what stop is
pub makes_go_stop_falls : Breaks (heedless 8) KeepsFit
unfolding computes
makes_go_stop_falls law = false≢true (law (on (write 20 19)) fresh tt refl)

-- a margin of 3 wants eight places
pub takes_any_size_falls : Breaks (heedless 1) CreateMakesFit
unfolding computes
takes_any_size_falls law = false≢true (law (create 3) fresh tt 3 refl refl)

pub creates_alike_falls : Breaks creates_alike CreateMakesFit
unfolding computes
creates_alike_falls law = false≢true (law (create 1) fresh tt 1 refl refl)
