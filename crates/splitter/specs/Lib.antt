pub mod Split
pub mod Load
pub mod Steps
pub mod Set
pub mod Sections
pub mod Laws
pub mod Names
pub mod Words
