mod Alike
mod Found
mod Shard
mod Complete
mod Merged
mod All
mod Kept
