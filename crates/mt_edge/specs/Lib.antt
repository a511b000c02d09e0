pub mod Answered
pub mod Causes
pub mod Files
pub mod Held
pub mod Keeping
pub mod Pieces
pub mod Shown
