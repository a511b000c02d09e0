pub mod Growing
pub mod Different
pub mod Grouping
pub mod Printed
pub mod ClassKeys
