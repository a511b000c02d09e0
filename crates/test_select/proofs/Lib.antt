mod Ascending
mod Making
