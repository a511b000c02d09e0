pub mod Ending
pub mod Result
pub mod Running
pub mod Advancing
pub mod Passing
pub mod Below
