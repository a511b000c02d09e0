pub mod Profile
pub mod True
