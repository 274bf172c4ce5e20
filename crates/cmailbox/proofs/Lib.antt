-- `Forming`, `Finishing` and `Lines` serve the proofs of the functions, `Keeping` is what every call keeps, and `Laws` are the laws of the C functions.
pub mod Forming
pub mod Finishing
pub mod Lines
pub mod Keeping
pub mod Laws
