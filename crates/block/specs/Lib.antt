-- `Packed` is the layout of the block, `States` says which blocks are states.
pub mod Packed
pub mod States
