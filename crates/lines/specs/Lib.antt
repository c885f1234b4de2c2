pub mod Format
pub mod Kinds
pub mod Reading
pub mod Views
pub mod Meaning
pub mod Shapes
pub mod Laws
