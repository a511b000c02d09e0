mod Bits
mod Kept
mod Walks
