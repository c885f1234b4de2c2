pub mod Bytes
pub mod Places
pub mod Lent
pub mod Number
pub mod Widths
