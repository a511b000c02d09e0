pub mod Methods
pub mod Witness
