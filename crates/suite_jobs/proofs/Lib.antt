mod Lists
mod Own
mod Same
mod Alike
mod Costs
mod Saying
mod Verdicts
mod Spent
mod Detected
pub mod Below
