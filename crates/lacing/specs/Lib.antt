pub mod Lace
pub mod Reading
pub mod Settled
pub mod Writing
