pub mod Instances
pub mod Storing
