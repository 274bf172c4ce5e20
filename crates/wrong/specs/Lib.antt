-- Bridges that are wrong in one way each, by theme, and otherwise ours: `Changing` and `Seeing` say how one is made from ours, `Trials` are
-- the worlds that they are tried in, and `Broken` says what it is to break a law.
pub mod Changing
pub mod Seeing
pub mod Trials
pub mod Broken
pub mod WrongSends
pub mod WrongReturns
pub mod WrongTelling
pub mod WrongLine
pub mod WrongAsks
pub mod WrongHolding
pub mod WrongCounts
pub mod SmallWorlds
pub mod WrongRoles
pub mod WrongRefusals
pub mod WrongRules
pub mod WrongStores
pub mod WrongBreaks
pub mod WrongStarts
pub mod WrongFrames
pub mod WrongStatus
pub mod WrongEvents
pub mod WrongShows
pub mod WrongRooms
