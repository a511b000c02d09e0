pub mod Lists
pub mod Keeping
pub mod Last
mod Holding
