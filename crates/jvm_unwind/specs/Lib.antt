pub mod Rows
pub mod Searches
pub mod Turns
pub mod Thrown
pub mod Unwinding
