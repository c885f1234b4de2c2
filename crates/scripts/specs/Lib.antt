pub mod Rules
pub mod Views
pub mod Wording
pub mod Laws
