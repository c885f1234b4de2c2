pub mod Cuts
pub mod Lines
pub mod LineByLine
pub mod Comments
