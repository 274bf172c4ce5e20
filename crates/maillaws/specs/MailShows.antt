-- What a show returns, by the cells that wait and the places that they stand in.
use Rattle.std.specs.Prelude.{ℕ, ◌-◌, ◌≤◌, min, ◌≡◌, false, List, [], length, take}
use Rattle.machine.specs.Machine.{of_calls}
use Rattle.store.specs.Ring.{held}
use Rattle.answers.specs.Answers.{part}
use Rattle.mailstate.specs.Sizes.{fits}
use Rattle.mailbox.specs.Calls.{show, World}
use Rattle.maillaws.specs.Mailboxes.{Law, Saw}
use Rattle.maillaws.specs.Sights.{Direction, to_bus, to_loop, store_of, ring_of}
use Rattle.maillaws.specs.StateFits.{Fits}

-- the first of the cells that wait, whole, as many as stand before the end of the store
pub record Unbroken (d : Direction) (w : World) (xs : List ℕ) : Type 0 where
  pub first : xs ≡ take (length xs) (held (store_of d w) (ring_of d w))
  pub longest : length xs ≡ min (ring_of d w).len (length (store_of d w) - (ring_of d w).oldest)

-- side 0 is the way to the bus, side 1 the way to the loop
pub record ShownRight (side : ℕ) (xs : List ℕ) (s : Saw) : Type 0 where
  pub tobus : Fits s.before → side ≡ 0 → Unbroken to_bus s.before xs
  pub toloop : Fits s.before → side ≡ 1 → Unbroken to_loop s.before xs
  -- nothing for any other side, and nothing where the state does not fit
  pub neither : 2 ≤ side → xs ≡ []
  pub misfit : fits s.before.state (length s.before.tobus) (length s.before.toloop) ≡ false → xs ≡ []
  -- showing only looks
  pub stays : s.after ≡ s.before

-- of every show; that its answer is a part is a law of its own
abbrev pub ShowsSo : Law
ShowsSo = of_calls (λ s. (side : ℕ) (xs : List ℕ) → s.call ≡ show side → s.answer ≡ part xs → ShownRight side xs s)
