pub mod Taking
pub mod Keeping
pub mod StaySteps
pub mod RunSteps
pub mod Dropping
pub mod Lands
