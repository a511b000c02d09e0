pub mod Heads
pub mod Places
pub mod Files
pub mod Owners
pub mod Sets
