-- The first byte of a block tells whose state it is: no block is a state of a bridge and of a mailbox, and a block that begins with any other
-- byte is none.
use Rattle.std.specs.Prelude.{ℕ, ◌<◌, ◌≡◌, false, List, get_or}
use Rattle.codec.specs.Codec.{Codec}
use Rattle.codec.specs.Blocks.{is_state, NeverBoth}
use Rattle.block.specs.Packed as bridge
use Rattle.mailblock.specs.Packed as mailbox

-- a block of a bridge's state is no state of a mailbox
abbrev pub NoMailboxInABridge : Type 0
NoMailboxInABridge = NeverBoth bridge.layout mailbox.layout

-- and a block of a mailbox's state is no state of a bridge
abbrev pub NoBridgeInAMailbox : Type 0
NoBridgeInAMailbox = NeverBoth mailbox.layout bridge.layout

-- a block of another version is no state of a layout
abbrev pub OnlyVersion : {S : Type 0} → Codec S → ℕ → Type 0
OnlyVersion layout version = (b : List ℕ) → (get_or b 0 0 ≡ version → ⊥) → is_state layout b ≡ false

-- of a bridge
abbrev pub NoOtherBridge : Type 0
NoOtherBridge = OnlyVersion bridge.layout bridge.version

-- so a block of before, whose version was 1 or 2, is no state of one: its receive store held bytes
abbrev pub NoneOfBefore : Type 0
NoneOfBefore = (b : List ℕ) → get_or b 0 0 < 3 → is_state bridge.layout b ≡ false

-- nor is one of another version a state of a mailbox
abbrev pub NoOtherMailbox : Type 0
NoOtherMailbox = OnlyVersion mailbox.layout mailbox.version
