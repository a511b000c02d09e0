pub mod Answered
pub mod Unchanged
pub mod Scratch
pub mod TriedOnce
pub mod Recorded
pub mod Written
pub mod AsAsked
pub mod Anew
