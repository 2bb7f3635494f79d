pub mod Calls
pub mod Image
pub mod Moments
pub mod Pair
pub mod Writing
