-- `Refusals` is the law of the checks' order; `Answers` and `Word` serve the proofs of the functions.
pub mod Refusals
pub mod Answers
pub mod Word
