pub mod Places
pub mod Making
pub mod Views
pub mod Made
pub mod Laws
pub mod Stays
