mod Bounds
mod WritingLaws
mod WrittenLaws
