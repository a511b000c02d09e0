pub mod Truth
pub mod Recorded
pub mod Suites
