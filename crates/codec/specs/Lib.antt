pub mod Format
pub mod Things
pub mod Laws
pub mod Whole
