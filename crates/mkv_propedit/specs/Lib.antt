pub mod Bound
pub mod Change
pub mod Left
pub mod Propedit
pub mod Recover
pub mod Recovery
pub mod Reindex
pub mod Command
