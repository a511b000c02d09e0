pub mod Supers
pub mod Ranks
pub mod Graph
pub mod Standings
pub mod Walks
pub mod Above
pub mod Searches
