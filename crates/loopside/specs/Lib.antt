pub mod LoopToLine
pub mod Sends
pub mod Frames
