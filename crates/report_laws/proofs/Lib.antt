pub mod Filed
pub mod Counted
pub mod Witness
pub mod Ids
