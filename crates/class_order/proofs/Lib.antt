mod Lists
mod Entering
mod Looking
mod Joining
mod Closing
mod Parts
mod Steps
mod Searching
pub mod Rows
pub mod Within
