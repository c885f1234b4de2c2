pub mod Decoding
pub mod Told
