mod Given
mod Back
