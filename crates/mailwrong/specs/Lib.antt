-- Mailboxes that are wrong in one way each, by theme, and otherwise ours: `Spoiling` says how one is made from ours, `MailTrials` are the worlds
-- that they are tried in and `MailTurns` runs of them, and `BrokenMail` says what it is to break a law.
pub mod Spoiling
pub mod MailTrials
pub mod MailTurns
pub mod BrokenMail
pub mod SpoiltWays
pub mod SpoiltFetches
pub mod SpoiltGiving
pub mod SpoiltClears
pub mod SpoiltNews
pub mod SpoiltRequests
pub mod SpoiltHolding
pub mod SpoiltRoles
pub mod SpoiltReturns
pub mod SpoiltPassing
pub mod SpoiltService
pub mod SpoiltBus
pub mod SpoiltReplies
pub mod SpoiltRefusals
pub mod SpoiltStores
pub mod SpoiltStarts
pub mod SpoiltShows
pub mod SpoiltAvailable
pub mod SpoiltPolls
pub mod SpoiltEnabling
pub mod SpoiltPlaces
