pub mod Options
pub mod Items
pub mod Said
pub mod Files
pub mod Attached
pub mod Output
pub mod Merge
