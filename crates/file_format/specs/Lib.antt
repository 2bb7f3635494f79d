pub mod Entry
pub mod Refusal
pub mod Tracks
pub mod TrackType
pub mod Encoding
pub mod FileTracks
pub mod Info
pub mod FileBlocks
