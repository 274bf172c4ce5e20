pub mod Role
pub mod Orders
pub mod Commands
pub mod Remote
pub mod ReadyFrames
pub mod RoleFit
pub mod NobodysAddress
