pub mod Targets
pub mod Owned
pub mod Objects
pub mod Receivers
pub mod Selected
pub mod Kinds
