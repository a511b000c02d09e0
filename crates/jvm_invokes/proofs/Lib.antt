mod Bodies
pub mod Outcomes
pub mod Standing
pub mod Begun
pub mod Resolved
pub mod StaticCalls
mod Lawful
