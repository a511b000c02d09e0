mod Found
mod Rooms
mod Setting
mod Beginnings
mod Walks
mod Needing
mod Readying
