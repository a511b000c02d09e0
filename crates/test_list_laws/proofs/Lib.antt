pub mod Listing
pub mod Apart
pub mod Witness
