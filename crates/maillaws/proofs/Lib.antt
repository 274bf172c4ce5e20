-- `Refusal` says what a call that is not refused tells, and `FrameWays` is the one view of a loop frame.
pub mod Refusal
pub mod FrameWays
pub mod FrameTests
pub mod Fields
pub mod Moves
pub mod BusMoves
pub mod LoopMoves
pub mod EveryMove
pub mod Ways
pub mod Requests
-- `LoopRoles` has the law of the role on the loop, `BusRoles` that of the side of the bus, and `Given` what a side is given when it asks.
pub mod LoopRoles
pub mod BusRoles
pub mod Given
-- `Fetching` is the view of a fetch, `Small` says that what is sent is bytes and data frames, `FitParts` takes fitting apart, `FrameFits` is of
-- loop frames; `Fitted` has the laws.
pub mod Fetching
pub mod Small
pub mod FitParts
pub mod FrameFits
pub mod Fitted
-- `Replied` has the laws of answers and refusals.
pub mod Replied
-- `HeldBack` has the laws of not ready for data.
pub mod HeldBack
-- `RequestWaits` says that a request shows only while something waits.
pub mod RequestWaits
-- `StatusSent` is of the status byte on the loop.
pub mod StatusSent
-- `NewsKept` and `NewsRuns` are of the news.
pub mod NewsKept
pub mod NewsRuns
pub mod NewsEnds
-- `StartsGiven` is of create and reset, `ShowsGiven` of what a show returns.
pub mod StartsGiven
pub mod ShowsGiven
-- `NewsGoes` is of the news of both ways.
pub mod NewsGoes
-- `HoldsGo` is of not ready and of the loop's response to polls.
pub mod HoldsGo
-- `PollsSeen` is of the lines of the bus and of the identify frame.
pub mod PollsSeen
-- `CellPlaces` is of the places of the cells.
pub mod CellPlaces
-- `OwnRuns`, `OwnStarts` and `Returned` are of returns on the loop.
pub mod OwnRuns
pub mod OwnStarts
pub mod Returned
-- `PassedOn` is of frames that go on and of the two IDs.
pub mod PassedOn
-- `ServiceBits` is of the service bit of every frame out.
pub mod ServiceBits
-- `Laws` has all of them in one theorem.
pub mod Laws
