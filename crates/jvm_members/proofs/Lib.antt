pub mod Turned
mod Declared
mod Slotted
mod Past
mod Fielded
mod Known
mod Readied
mod Laid
mod Made
pub mod Wholes
pub mod Resolved
mod Classed
mod Casted
