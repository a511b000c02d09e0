pub mod Claims
pub mod Agreement
pub mod Ending
pub mod Held
