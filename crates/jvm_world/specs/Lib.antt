pub mod Finding
pub mod Holding
pub mod Classes
pub mod Scripts
pub mod View
