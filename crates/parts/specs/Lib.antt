pub mod Limits
pub mod Items
