mod Lists
mod Rising
mod Profile
mod Closed
mod Consulted
