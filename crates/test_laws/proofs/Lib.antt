mod Lists
mod Alike
mod Marks
mod Edited
mod Once
mod Declared
mod Found
mod Ending
