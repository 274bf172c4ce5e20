-- Mailboxes that say wrongly that they are not ready, or release another frame than they held back. Assumes nothing.
use Prim.Native.Nat.{ℕ}
use mathlib.Core.Path.{refl}
use mathlib.Core.Bool.{true}
use mathlib.Core.List.{List, [], ◌∷◌}
use Rattle.frame.specs.Frame.{made}
use Rattle.store.specs.declared.Ring.{Ring}
use Rattle.news.specs.declared.News.{News}
use Rattle.news.specs.News.{no_news, come}
use Rattle.answers.specs.Answers.{frame, cell}
use Rattle.mailstate.specs.State.{with_hold}
use Rattle.mailbox.specs.Calls.{Call, World, Did}
use Rattle.maillaws.specs.Sights.{to_bus}
use Rattle.maillaws.specs.NotReady.{HoldsBack, Released}
use Rattle.refuting.specs.SmallRings.{ring}
use Rattle.refuting.specs.WrittenOut.{Turn}
use Rattle.refuting.proofs.Apart.{answers_differ}
use Rattle.refuting.proofs.StandsIn.{holds, no_round}
use Rattle.refuting.proofs.ByTurns.{in_between}
use Rattle.mailwrong.specs.Spoiling.{having, with_ring, with_news, with_cells}
use Rattle.mailwrong.specs.MailTrials.{cells_for, waiting, watchful, holding_back, takes, asks}
use Rattle.mailwrong.specs.MailTurns.{mail, answers}
use Rattle.mailwrong.specs.SpoiltHolding.{never_holds, holds_two, holds_late, never_releases, releases_unmarked, releases_another}
use Rattle.mailwrong.specs.BrokenMail.{Breaks}
use Rattle.mailwrong.proofs.MailComputing.{computes}

-- ---- held back or passed: two places are free, or one is

-- 0,57 passes, where 5,66 is due
pub never_holds_falls : Breaks never_holds HoldsBack
unfolding computes
never_holds_falls law =
    answers_differ _ _ refl ((law (takes 0 57) watchful tt (made 0 57) refl refl refl refl).held (rw (holds (cells_for to_bus) 0 0 refl)))

-- 2,49 is held back, the bus has fetched its byte, and 0,57 gives 5,66 again
pub holds_two_falls : Breaks holds_two HoldsBack
unfolding computes
holds_two_falls law =
    answers_differ _ _ refl ((law (takes 0 57) (waiting to_bus 0 (holding_back (made 2 49))) tt (made 0 57) refl refl refl refl).passes refl)

-- 0,57 fills the way and gives 5,66
pub holds_late_falls : Breaks holds_late HoldsBack
unfolding computes
holds_late_falls law =
    answers_differ _ _ refl ((law (takes 0 57) (waiting to_bus 1 watchful) tt (made 0 57) refl refl refl refl).passes (rw (holds (cells_for to_bus) 0 1 refl)))

-- ---- released: 2,57 is held back, and 5,66 comes round

pub never_releases_falls : Breaks never_releases Released
unfolding computes
never_releases_falls law =
    answers_differ _ _ refl
    (rw (no_round 2 0 refl)
    at (law (takes 2 57) [] (takes 5 66) watchful tt tt tt (made 2 57) refl refl refl refl refl refl (rw (no_round 2 0 refl))))

pub releases_unmarked_falls : Breaks releases_unmarked Released
unfolding computes
releases_unmarked_falls law =
    answers_differ _ _ refl
    (rw (no_round 2 0 refl)
    at (law (takes 2 57) [] (takes 5 66) watchful tt tt tt (made 2 57) refl refl refl refl refl refl (rw (no_round 2 0 refl))))

-- 2,57 is held back, 0,58 comes and passes, and it is 0,58 that goes on
pub releases_another_falls : Breaks releases_another Released
unfolding computes
releases_another_falls law =
    answers_differ _ _ refl
    (rw (no_round 2 0 refl, no_round 2 1 refl)
    at (law (takes 2 57) (takes 0 58 ∷ []) (takes 5 66) watchful tt tt (tt, tt) (made 2 57) refl refl refl refl (rw (no_round 2 0 refl)) refl
    (rw (no_round 2 0 refl, no_round 2 1 refl))))

-- 2,57 is held back, the bus fetches its byte, 0,58 is held back too, and it is 0,58 that goes on
held_of : ℕ → List ℕ → Ring → News → World
held_of f cells r n =
    having (λ s. with_hold s (record { enabled = true; held = true; frame = f })) (with_cells to_bus cells (with_news to_bus n (with_ring to_bus r watchful)))

first : Turn Call Did
first = answers (takes 2 57) (frame 5 66) (held_of (made 2 57) (313 ∷ 55 ∷ []) (ring 2 0 1) come)

others : List (Turn Call Did)
others =
    answers (asks to_bus) (cell 313) (held_of (made 2 57) (313 ∷ 55 ∷ []) (ring 2 1 0) no_news)
    ∷ answers (takes 0 58) (frame 5 66) (held_of 58 (313 ∷ 58 ∷ []) (ring 2 1 1) come)
    ∷ []

pub holds_two_releases_one : Breaks holds_two Released
unfolding computes held_of first others
holds_two_releases_one law =
    answers_differ _ _ refl
    (in_between mail holds_two Released watchful first others (takes 5 66)
    (rw (no_round 2 0 refl), (rw (holds (313 ∷ 55 ∷ []) 0 1 refl, no_round 2 1 refl), (rw (no_round 2 1 refl), tt))) tt (tt, (tt, (tt, tt))) law
    (made 2 57) refl refl refl refl refl refl refl)
