-- What create and the calls return fits the same stores.
use Rattle.std.specs.Prelude.{ℕ, ◌≡◌, true, length}
use Rattle.machine.specs.Machine.{of_calls}
use Rattle.answers.specs.Answers.{done}
use Rattle.mailstate.specs.Sizes.{fits}
use Rattle.mailbox.specs.Calls.{create, World}
use Rattle.maillaws.specs.Mailboxes.{Law}

-- the state fits the stores
abbrev pub Fits : World → Type 0
Fits w = fits w.state (length w.tobus) (length w.toloop) ≡ true

-- the same stores: no call makes one longer or shorter
pub record SameStores (before after : World) : Type 0 where
  pub tobus : length after.tobus ≡ length before.tobus
  pub toloop : length after.toloop ≡ length before.toloop

-- every call keeps a state that fits, reachable or not
abbrev pub KeepsFit : Law
KeepsFit = of_calls (λ s. Fits s.before → Fits s.after)

-- a create that is done makes one that fits, whatever stood there
abbrev pub CreateMakesFit : Law
CreateMakesFit = of_calls (λ s. (a : ℕ) → s.call ≡ create a → s.answer ≡ done → Fits s.after)

-- no call makes a store longer or shorter
abbrev pub KeepsStores : Law
KeepsStores = of_calls (λ s. SameStores s.before s.after)
