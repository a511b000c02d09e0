pub mod Indices
pub mod Reading
pub mod Spells
pub mod SpellingLaws
