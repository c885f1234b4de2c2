pub mod Absorbing
pub mod Bytes
pub mod FromFn
pub mod Lanes
pub mod Laws
pub mod Lists
pub mod Padding
pub mod Schedule
