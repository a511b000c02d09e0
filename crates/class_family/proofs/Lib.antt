pub mod Pushing
pub mod Levels
mod Upwards
pub mod Onces
pub mod Numbered
mod Walking
pub mod Above
pub mod Several
pub mod Searches
