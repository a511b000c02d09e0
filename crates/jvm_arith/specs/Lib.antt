pub mod Narrowing
pub mod Division
