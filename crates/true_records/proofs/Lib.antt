mod Kept
mod Holding
mod Putting
