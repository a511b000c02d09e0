pub mod Making
pub mod Statics
pub mod Effects
pub mod Rows
pub mod Storing
pub mod Plain
