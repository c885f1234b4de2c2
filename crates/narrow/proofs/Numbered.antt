-- The theorems on numbered tickets and the lemmas to them.
pub mod Kinds
pub mod Same
pub mod Terms
pub mod Parts
pub mod Can
pub mod Sound
pub mod Complete
pub mod Monotone
pub mod Main
