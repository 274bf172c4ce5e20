-- What a show returns, by the cells or bytes held and the places that they stand in.
use Rattle.std.specs.Prelude.{ℕ, ◌-◌, min, ◌≡◌, false, List, [], length, take}
use Rattle.machine.specs.Machine.{of_calls}
use Rattle.store.specs.declared.Ring.{Ring}
use Rattle.store.specs.Ring.{held}
use Rattle.answers.specs.Answers.{part}
use Rattle.state.specs.Sizes.{fits}
use Rattle.bridge.specs.Calls.{Store, show, store_of, ring_of}
use Rattle.laws.specs.Bridges.{Law, Saw}
use Rattle.laws.specs.Fitting.{Fits}

-- Sizes and refusals, showing: the first of those held, as many as stand before the end of the store
pub record Unbroken (s : List ℕ) (r : Ring) (xs : List ℕ) : Type 0 where
  pub first : xs ≡ take (length xs) (held s r)
  pub longest : length xs ≡ min r.len (length s - r.oldest)

-- of the store that is shown: cells of the receive store, bytes of the transmit store
pub record ShownRight (side : Store) (xs : List ℕ) (s : Saw) : Type 0 where
  pub part : Fits s.before → Unbroken (store_of side s.before) (ring_of side s.before.state) xs
  -- nothing where the state does not fit
  pub misfit : fits s.before.state (length s.before.rx) (length s.before.tx) ≡ false → xs ≡ []
  -- showing only looks
  pub stays : s.after ≡ s.before

-- of every show; that its answer is a part is a law of its own
abbrev pub ShowsSo : Law
ShowsSo = of_calls (λ s. (side : Store) (xs : List ℕ) → s.call ≡ show side → s.answer ≡ part xs → ShownRight side xs s)
