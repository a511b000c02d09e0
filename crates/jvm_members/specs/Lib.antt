pub mod Turned
pub mod Sites
pub mod FieldRows
pub mod Slots
pub mod Layouts
pub mod Whole
pub mod ClassRows
