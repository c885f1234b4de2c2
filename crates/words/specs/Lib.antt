pub mod Results
pub mod Lines
pub mod Wishes
pub mod Means
pub mod Laws
