-- `Mailboxes` is what a law of any mailbox is and `Sights` what is seen of its calls; the laws follow, each file with one concern, and `Laws`
-- lists them all.
pub mod Mailboxes
pub mod Sights
pub mod Replies
pub mod StateFits
pub mod WaysKept
pub mod WaysCleared
pub mod NewsTold
pub mod Requesting
pub mod Giving
pub mod NotReady
pub mod LoopRole
pub mod BusRole
pub mod MailStarts
pub mod MailShows
pub mod NewsGoing
pub mod PollsTold
pub mod HoldGoing
pub mod MailPlaces
pub mod OwnReturns
pub mod FramesOn
pub mod ServiceOut
pub mod Laws
pub mod Obeyed
