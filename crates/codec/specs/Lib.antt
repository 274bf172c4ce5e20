-- `Codec` says how values stand in bytes, on the basis of `Standing`. `Blocks` says which blocks are states of a layout and what a block means,
-- and `Parts` what several layouts have in them.
pub mod Standing
pub mod Codec
pub mod Blocks
pub mod Parts
