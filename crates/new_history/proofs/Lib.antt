pub mod Tables
pub mod Growing
pub mod Keyed
pub mod FirstRows
pub mod Picking
pub mod Spelling
pub mod Taking
pub mod Parting
