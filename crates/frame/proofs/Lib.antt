-- `Masks` has the masks of the code as divisions; `Laws` is what callers use.
pub mod Masks
pub mod Laws
