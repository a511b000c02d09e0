mod LookUps
mod Plans
mod ThreeCells
