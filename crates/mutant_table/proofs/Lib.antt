mod Views
mod Moves
mod Told
mod Ended
