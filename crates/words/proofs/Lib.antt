pub mod Listing
pub mod Spans
pub mod Contents
pub mod FirstWords
pub mod Telling
pub mod Taking
pub mod Back
pub mod Wished
