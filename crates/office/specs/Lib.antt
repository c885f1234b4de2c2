pub mod Ends
pub mod Wording
pub mod Opened
