pub mod Arguments
pub mod Texts
pub mod Numbers
pub mod Objects
pub mod Collections
pub mod Assertions
pub mod Numbered
pub mod Places
