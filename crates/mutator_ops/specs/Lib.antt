pub mod Calls
pub mod Changes
pub mod Table
pub mod Mutants
pub mod Counts
pub mod Programs
pub mod Laws
pub mod Printing
