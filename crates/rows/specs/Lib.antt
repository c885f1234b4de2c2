pub mod Wire
pub mod Standing
pub mod Row
pub mod Each
pub mod Rowing
pub mod Due
