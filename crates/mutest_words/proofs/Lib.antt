mod Parsed
mod Apps
mod WordLaws
mod Limits
mod Read
