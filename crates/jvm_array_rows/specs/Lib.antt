pub mod Built
pub mod Descriptors
pub mod Grown
pub mod Rows
