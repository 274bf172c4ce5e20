-- `Copied` and `Same` serve the proofs of the functions that pack and read blocks, `Laws` are the laws of blocks.
pub mod Copied
pub mod Same
pub mod Laws
