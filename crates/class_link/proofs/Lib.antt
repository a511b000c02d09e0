pub mod AppendedLaws
pub mod EditLaws
pub mod FormLaws
pub mod Resolved
pub mod LineLaws
pub mod StatedLaws
pub mod NameLaws
