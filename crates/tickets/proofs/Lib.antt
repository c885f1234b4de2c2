pub mod Rightly
pub mod Changed
pub mod Compared
