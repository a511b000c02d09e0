pub mod MnemonicLaws
pub mod InsnLaws
pub mod IfSome
pub mod NumberLaws
pub mod LineLaws
pub mod Positions
pub mod LabelLaws
