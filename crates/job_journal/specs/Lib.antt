pub mod Adding
pub mod Numbers
pub mod Tables
pub mod Keeping
pub mod Opening
