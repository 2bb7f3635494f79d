pub mod Opened
pub mod Folders
pub mod OpenedPair
pub mod Written
pub mod Errors
