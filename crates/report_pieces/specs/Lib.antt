pub mod Groups
pub mod Report
pub mod Pieces
pub mod FileKey
