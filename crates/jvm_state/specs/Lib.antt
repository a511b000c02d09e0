pub mod Slots
pub mod Tops
pub mod Rows
pub mod Narrowings
pub mod Zero
pub mod Jumps
pub mod Ops
pub mod Stores
