pub mod Answers
pub mod Items
pub mod Locals
pub mod Sites
pub mod Words
pub mod Means
