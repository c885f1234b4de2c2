pub mod Several
pub mod Shows
