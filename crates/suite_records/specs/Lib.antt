pub mod Suites
pub mod Laws
pub mod Below
