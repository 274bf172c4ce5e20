-- `Product` is what the C functions of a product are made of, `CCalls` what each of them does, `CRuns` what several do one after the other, and
-- `Numbers` what their caller sees. `Formed` and `Kept` say what the product has to be, and `CLaws`, `CRefusals` and `CFitting` what then holds of
-- every C call and run.
pub mod Product
pub mod CCalls
pub mod Formed
pub mod Numbers
pub mod CRuns
pub mod Kept
pub mod CLaws
pub mod CRefusals
pub mod CFitting
