pub mod Laws
pub mod Left
pub mod Places
pub mod Reading
pub mod ToldDamages
pub mod Walks
pub mod Takes
