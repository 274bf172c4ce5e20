-- `KnownRing` proves that the stores are as the ring by the remainder, and `WrongGoingRound` that wrong ones are not. `GoingOn` and `OneStore`
-- have the places of a store over one call, and `Filled` goes from every call to the run.
pub mod KnownRing
pub mod WrongGoingRound
pub mod GoingOn
pub mod OneStore
pub mod Filled
