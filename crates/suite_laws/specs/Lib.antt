pub mod Found
pub mod Edited
pub mod Covered
pub mod Accepted
pub mod Witness
pub mod Tested
pub mod Suites
pub mod Below
