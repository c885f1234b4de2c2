pub mod Cuts
pub mod Forms
pub mod Views
