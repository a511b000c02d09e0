mod Settings
mod Judging
