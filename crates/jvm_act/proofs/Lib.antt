pub mod Turns
pub mod Framed
pub mod Coded
mod Unnamed
pub mod Rows
mod Returned
pub mod Executed
mod Called
mod Fielded
mod Held
mod Handled
mod Asked
mod Further
pub mod Below
