-- Every bridge that shows a store wrongly breaks the law of showing, and every one whose margin goes wrong that of the sizes. Assumes nothing.
use Prim.Native.Nat.{ℕ}
use native.Mathlib.Omega.{arith}
use mathlib.Core.Path.{◌≡◌, refl, ap}
use mathlib.Core.Bool.{true≢false}
use mathlib.Core.List.{List, []}
use lib.Dec.{eqb}
use lib.ListN.{get_or}
use Rattle.bridge.specs.Calls.{receive, write, show, on}
use Rattle.laws.specs.Showing.{ShowsSo}
use Rattle.laws.specs.Starting.{SizesStay}
use Rattle.wrong.specs.SmallWorlds.{holding_bytes, misfitting, takes_command}
use Rattle.refuting.proofs.Apart.{lists_differ}
use Rattle.refuting.proofs.StandsIn.{holds}
use Rattle.wrong.specs.Trials.{one_to_four, holding_first, broken_byte}
use Rattle.wrong.specs.WrongShows.{shows_nothing, shows_misfits, shows_bytes, clears_margin, writes_margin, wide}
use Rattle.wrong.specs.Broken.{Breaks}
use Rattle.wrong.proofs.Computing.{computes}
use Rattle.wrong.proofs.Ends.{has_at}

-- two bytes are held
pub shows_nothing_falls : Breaks shows_nothing ShowsSo
unfolding computes
shows_nothing_falls law =
    let n : ◌≡◌ {A = ℕ} 0 2 = ((law (show receive) (holding_bytes 2) tt receive [] refl refl).part refl).longest in
    omega arith

pub shows_misfits_falls : Breaks shows_misfits ShowsSo
unfolding computes
shows_misfits_falls law = true≢false (ap (has_at 0 49) ((law (show receive) misfitting tt receive one_to_four refl refl).misfit refl))

-- 50, break is held, and 50 is shown
pub shows_bytes_falls : Breaks shows_bytes ShowsSo
unfolding computes
shows_bytes_falls law =
    lists_differ _ _ refl
    (rw (holds broken_byte 0 1 refl) at ((law (show receive) (holding_first 1 broken_byte) tt receive _ refl refl).part refl).first)

pub clears_margin_falls : Breaks clears_margin SizesStay
unfolding computes
clears_margin_falls law = true≢false (ap (λ (x : List ℕ). eqb (get_or x 0 0) 1) (law (takes_command 20) wide tt refl))

pub writes_margin_falls : Breaks writes_margin SizesStay
unfolding computes
writes_margin_falls law = true≢false (ap (λ (x : List ℕ). eqb (get_or x 0 0) 1) (law (on (write 11 8)) wide tt refl))
