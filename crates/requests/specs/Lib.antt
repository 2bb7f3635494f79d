pub mod Decimal
pub mod Lists
pub mod Plain
pub mod Sound
pub mod Texts
pub mod Language
