pub mod Chapters
pub mod Extracted
