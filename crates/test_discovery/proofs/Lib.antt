mod Rising
mod Lists
mod First
mod Whole
mod Counts
