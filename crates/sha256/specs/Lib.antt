pub mod Blocks
pub mod Constants
pub mod Sha256
pub mod Stages
