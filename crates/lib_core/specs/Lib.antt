pub mod View
pub mod Known
pub mod Performed
pub mod Answers
pub mod Forms
pub mod Slots
