pub mod Keyed
pub mod Report
pub mod FileKey
pub mod Summary
