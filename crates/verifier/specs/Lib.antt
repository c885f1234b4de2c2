pub mod Chain
pub mod Verdict
pub mod Laws
pub mod Stages
