-- Which blocks are states, and what a block means.
use Rattle.std.specs.Prelude.{ℕ, ◌<◌, Bool, List}
use Rattle.codec.specs.Blocks as blocks
use Rattle.state.specs.declared.State.{State}
use Rattle.state.specs.declared.Counts.{Counts}
use Rattle.state.specs.Sizes.{start_state, fits}
use Rattle.block.specs.Packed.{layout}

-- a block is a state if it has the length of one and is what the state that it means is packed as
abbrev pub is_state : List ℕ → Bool
is_state b = blocks.is_state layout b

-- stands for the state of a block that is none; its sizes are broken, so that it fits no stores
abbrev pub no_state : State
no_state = start_state 0 0 0

-- what a block means
abbrev pub meaning : List ℕ → State
meaning b = blocks.meaning layout no_state b

-- a block is a state that fits stores of these lengths
abbrev pub fitting_block : List ℕ → ℕ → ℕ → Bool
fitting_block b rx tx = blocks.fitting_block layout (λ s. fits s rx tx) b

-- every number fits its place in the block; the types of the code's fields give this of every state
abbrev pub Ranged : State → Type 0
Ranged s = layout.Ranged s

-- the counts are kept in 32 bits
pub record CountsRanged (k : Counts) : Type 0 where
  pub stored : k.stored < 4294967296
  pub lost : k.lost < 4294967296
  pub sent : k.sent < 4294967296
