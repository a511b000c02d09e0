pub mod Pushed
pub mod Stored
pub mod Settings
pub mod Homes
pub mod News
mod Switched
