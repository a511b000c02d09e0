pub mod Words
pub mod Bases
pub mod Lookups
pub mod Reversed
pub mod FreshLaws
pub mod Closed
pub mod StatedLaws
pub mod StatedTables
mod Retaining
mod Sweeping
