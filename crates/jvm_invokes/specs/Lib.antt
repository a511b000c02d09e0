pub mod Heads
pub mod Invoked
pub mod Calls
pub mod Rows
pub mod Laws
