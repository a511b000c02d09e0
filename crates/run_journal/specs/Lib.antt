pub mod Entries
pub mod Contents
pub mod Reading
pub mod Laws
pub mod Calls
pub mod Seen
