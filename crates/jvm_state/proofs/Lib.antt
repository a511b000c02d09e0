pub mod Stacks
pub mod Pairs
pub mod LocalLaws
pub mod StoreLaws
