pub mod Asking
pub mod Recorded
pub mod Places
pub mod Below
