-- `Tested` serves the proofs of the functions, `Laws` are the laws of the block.
pub mod Tested
pub mod Laws
