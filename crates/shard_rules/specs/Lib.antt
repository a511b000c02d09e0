pub mod Heads
pub mod Files
pub mod Sets
pub mod Owners
pub mod Laws
pub mod Worked
