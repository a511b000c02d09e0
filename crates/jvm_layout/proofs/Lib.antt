pub mod Climbing
mod SlotCounts
