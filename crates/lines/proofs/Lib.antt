pub mod Rows
pub mod Fronts
pub mod ByKind
pub mod Told
pub mod Meanings
pub mod Decoding
