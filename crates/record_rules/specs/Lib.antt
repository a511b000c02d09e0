pub mod Profiles
pub mod Outcomes
pub mod Records
pub mod Matching
pub mod Truth
pub mod Histories
pub mod Jobs
