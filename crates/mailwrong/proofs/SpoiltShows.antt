-- Mailboxes that show wrongly what waits. Assumes nothing.
use Prim.Native.Nat.{ℕ, ◌-◌, min}
use native.Mathlib.Omega.{arith}
use mathlib.Core.Path.{◌≡◌, refl, sym}
use mathlib.Core.List.{List, [], ◌∷◌}
use lib.ListN.{length, take, drop}
use Rattle.store.specs.Ring.{run}
use Rattle.store.proofs.Laws.{run_part}
use Rattle.mailbox.specs.Calls.{show}
use Rattle.maillaws.specs.Sights.{to_bus}
use Rattle.maillaws.specs.MailShows.{ShowsSo}
use Rattle.refuting.specs.SmallRings.{ring}
use Rattle.refuting.proofs.StandsIn.{no_round}
use Rattle.mailwrong.specs.MailTrials.{cells_for, fresh, full, waiting}
use Rattle.mailwrong.specs.SpoiltShows.{shows_empty, shows_newest, shows_other}
use Rattle.mailwrong.specs.BrokenMail.{Breaks}
use Rattle.mailwrong.proofs.MailComputing.{computes}

-- what stands unbroken from place p on, of n cells
shown : (s : List ℕ) (p n : ℕ) → run s (ring (length s) p n) ≡ take (min n (length s - p)) (drop p s)
shown s p n = sym (run_part s (ring (length s) p n) (min n (length s - p)) refl)

-- two cells wait for the bus

pub shows_empty_falls : Breaks shows_empty ShowsSo
unfolding computes
shows_empty_falls law =
    let n : ◌≡◌ {A = ℕ} 0 2 = ((law (show 0) full tt 0 [] refl refl).tobus refl refl).longest in
    omega arith

pub shows_newest_falls : Breaks shows_newest ShowsSo
unfolding computes
shows_newest_falls law =
    let n : ◌≡◌ {A = ℕ} 1 2 = ((law (show 0) full tt 0 (55 ∷ []) refl (rw (no_round 2 1 refl, shown (cells_for to_bus) 1 1))).tobus refl refl).longest in
    omega arith

-- and none for the loop
pub shows_other_falls : Breaks shows_other ShowsSo
unfolding computes
shows_other_falls law =
    let n : ◌≡◌ {A = ℕ} 0 2 = ((law (show 0) (waiting to_bus 2 fresh) tt 0 [] refl (rw (shown (306 ∷ 53 ∷ []) 0 0))).tobus refl refl).longest in
    omega arith
