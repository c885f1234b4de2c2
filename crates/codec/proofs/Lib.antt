pub mod Combined
pub mod Wholly
pub mod EachKind
pub mod Steps
pub mod Laid
