pub mod FirstWords
pub mod Names
