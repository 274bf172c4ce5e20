-- Sizes and refusals, fitting: what create and the calls return fits the same stores.
use Rattle.std.specs.Prelude.{ℕ, ◌≡◌, true, length}
use Rattle.machine.specs.Machine.{of_calls}
use Rattle.answers.specs.Answers.{done}
use Rattle.state.specs.Sizes.{fits}
use Rattle.bridge.specs.Calls.{create, World}
use Rattle.laws.specs.Bridges.{Law}

-- the state fits the stores
abbrev pub Fits : World → Type 0
Fits w = fits w.state (length w.rx) (length w.tx) ≡ true

-- the same stores: no call makes one longer or shorter
pub record SameStores (before after : World) : Type 0 where
  pub rx : length after.rx ≡ length before.rx
  pub tx : length after.tx ≡ length before.tx

-- every call keeps a state that fits, reachable or not
abbrev pub KeepsFit : Law
KeepsFit = of_calls (λ s. Fits s.before → Fits s.after)

-- a create that is done makes one that fits, whatever stood there
abbrev pub CreateMakesFit : Law
CreateMakesFit = of_calls (λ s. (m : ℕ) → s.call ≡ create m → s.answer ≡ done → Fits s.after)

-- no call makes a store longer or shorter
abbrev pub KeepsStores : Law
KeepsStores = of_calls (λ s. SameStores s.before s.after)
