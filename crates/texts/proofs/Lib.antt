pub mod Cuts
pub mod Lasts
pub mod Steps
pub mod Digits
pub mod Labelling
