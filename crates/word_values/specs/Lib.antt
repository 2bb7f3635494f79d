pub mod Answers
pub mod Numbers
pub mod Lists
pub mod Values
pub mod Place
pub mod Why
pub mod Sound
