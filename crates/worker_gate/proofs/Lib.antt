mod Cells
mod Costs
mod Loop
mod Ready
mod Settling
mod Exactly
mod RoundLaws
pub mod Leaving
mod Shares
