-- No block is a state of a bridge and of a mailbox, and none of another version is a state. Assumes nothing.
use Prim.Native.Nat.{ℕ}
use native.Mathlib.Omega.{arith}
use mathlib.Core.Path.{◌≡◌, refl}
use mathlib.Core.Bool.{Bool, true, false}
use Rattle.codec.specs.Codec.{Codec}
use Rattle.codec.specs.Blocks.{is_state, StartsWith}
use Rattle.codec.proofs.Laws.{state_version, never_both}
use Rattle.block.specs.Packed as bridge
use Rattle.mailblock.specs.Packed as mailbox
use Rattle.versions.specs.Versions.{NoMailboxInABridge, NoBridgeInAMailbox, OnlyVersion, NoOtherBridge, NoneOfBefore, NoOtherMailbox}

pub no_mailbox_in_a_bridge : NoMailboxInABridge
no_mailbox_in_a_bridge = never_both bridge.layout mailbox.layout bridge.version mailbox.version (λ s. refl) (λ s. refl) (λ e. omega (arith, e))

pub no_bridge_in_a_mailbox : NoBridgeInAMailbox
no_bridge_in_a_mailbox = never_both mailbox.layout bridge.layout mailbox.version bridge.version (λ s. refl) (λ s. refl) (λ e. omega (arith, e))

only_version : {S : Type 0} (layout : Codec S) (version : ℕ) → StartsWith layout version → OnlyVersion layout version
only_version layout version p b h = pick (is_state layout b) refl
  where
    pick : (t : Bool) → is_state layout b ≡ t → is_state layout b ≡ false
    pick true e = absurd (h (state_version layout version p b e))
    pick false e = e

pub no_other_bridge : NoOtherBridge
no_other_bridge = only_version bridge.layout bridge.version (λ s. refl)

pub none_of_before : NoneOfBefore
none_of_before b h = no_other_bridge b (λ e. omega (arith, e))

pub no_other_mailbox : NoOtherMailbox
no_other_mailbox = only_version mailbox.layout mailbox.version (λ s. refl)
