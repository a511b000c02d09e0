pub mod Positions
pub mod Different
