mod Spelled
mod Files
mod Tests
mod Ordered
mod Mutants
mod Faultless
pub mod Below
