pub mod Info
pub mod Attachments
pub mod End
pub mod Walk
pub mod Attached
pub mod Records
