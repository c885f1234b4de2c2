pub mod Wording
pub mod Cuts
pub mod Results
pub mod Labels
pub mod Numerals
