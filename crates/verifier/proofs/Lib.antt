pub mod Exactly
pub mod NoMore
pub mod Chains
