pub mod Frames
pub mod Running
pub mod Staying
