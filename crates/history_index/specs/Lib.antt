pub mod Numbers
pub mod Standings
pub mod Groups
pub mod Firsts
pub mod Lookouts
