pub mod Apart
mod Few
pub mod Keyed
pub mod Books
mod Looked
