pub mod Described
pub mod Numbers
pub mod Casts
pub mod Stores
