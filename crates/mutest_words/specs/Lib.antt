pub mod Given
pub mod Numbers
pub mod Words
pub mod Laws
