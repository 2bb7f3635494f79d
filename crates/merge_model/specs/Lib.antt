pub mod Ends
pub mod Heads
pub mod Lanes
pub mod Links
pub mod Merged
pub mod FileLinks
pub mod Timed
