mod Ordered
mod Placing
mod Listing
mod Made
mod Finding
mod Texts
