pub mod Showing
pub mod Views
pub mod Laws
