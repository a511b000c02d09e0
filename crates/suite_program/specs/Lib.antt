pub mod Duplicates
pub mod Supers
pub mod Programs
pub mod Faults
pub mod Building
pub mod Below
