pub mod Parent
pub mod Body
pub mod Held
pub mod Looks
pub mod Window
pub mod Steps
pub mod Walk
