pub mod Blocks
pub mod Bound
pub mod Files
pub mod Generate
pub mod Made
pub mod Outcome
pub mod Writing
pub mod Asked
