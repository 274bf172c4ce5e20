-- `Rows` what the paper's table says of a number,
-- `Refusals` the rules of a write, `Ways` the same along the code, `Writes` what a write leaves,
-- `Fits` what keeps registers fitting, `Flat` the fit test as the code has it.
pub mod Rows
pub mod Refusals
pub mod Ways
pub mod Writes
pub mod Fits
pub mod Flat
pub mod Wording
