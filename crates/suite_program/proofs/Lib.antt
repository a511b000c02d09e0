mod AcceptedLaws
mod BuiltLaws
mod CodeLaws
mod DuplicateLaws
mod FileLaws
mod FirstLaws
mod NumberLaws
mod ProgramLaws
pub mod ReadyLaws
mod SuperLaws
mod WholeLaws
pub mod Below
