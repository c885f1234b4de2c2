pub mod Comparing
pub mod Keying
pub mod Laws
