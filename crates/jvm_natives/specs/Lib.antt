pub mod Natives
pub mod Ends
pub mod Copies
pub mod Completed
