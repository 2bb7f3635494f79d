pub mod Files
pub mod Generated
