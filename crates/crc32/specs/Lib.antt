pub mod Checksum
pub mod Laws
pub mod Tables
