-- `Refusals` is the list of checks and its order, `Answers` what a call answers, `Refusing` when it refuses, and `Word` the number of an answer.
pub mod Refusals
pub mod Answers
pub mod Refusing
pub mod Word
