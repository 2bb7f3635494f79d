pub mod Inputs
pub mod Laws
pub mod TextFile
pub mod ChapterFile
pub mod TimesFile
pub mod TextFiles
pub mod Names
pub mod Track
