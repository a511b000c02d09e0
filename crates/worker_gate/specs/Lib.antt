pub mod Hands
pub mod Ends
pub mod Workers
pub mod Settled
pub mod Exact
pub mod Leaving
pub mod Rounds
pub mod Sharing
