-- The number that showing answers, in 64 bits.
use Rattle.std.specs.Prelude.{ℕ, List}
use Rattle.boundary.specs.CCalls as boundary
use Rattle.bridge.specs.Calls.{Store, World}
use Rattle.raftershim.specs.Bridge.{bridges}

-- the cells of the receive store, and the bytes of the transmit store
abbrev pub store_of : Store → World → List ℕ
store_of side w = boundary.store_of bridges side (bridges.apart w)

-- the part shown: its length in bits 0 to 31, and in bits 32 to 63 where it starts in its store
abbrev pub shown_word : Store → World → ℕ
shown_word side w = boundary.shown_word bridges side (bridges.apart w)
