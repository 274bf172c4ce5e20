-- In the order of the heading Frames: the start, commands, ready frames, what is sent, what comes back; then what fits.
pub mod Talker
pub mod Obeying
pub mod Readied
pub mod UnderWay
pub mod Returning
pub mod TalkerFit
