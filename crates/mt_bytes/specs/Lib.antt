pub mod Moves
pub mod Items
