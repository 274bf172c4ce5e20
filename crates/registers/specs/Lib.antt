-- `Table` is the paper's table of registers, `Bits` what a value's bits are, `Meanings` what the bits and characters mean,
-- `Writing` the refusals and the result of a write, `RegistersFit` when registers fit.
pub mod Table
pub mod Bits
pub mod Meanings
pub mod Writing
pub mod RegistersFit
