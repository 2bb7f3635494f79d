pub mod Bound
pub mod Extract
pub mod Names
pub mod Read
pub mod Steps
pub mod Extractions
pub mod Told
pub mod ToldNumbers
