pub mod Forms
pub mod Views
