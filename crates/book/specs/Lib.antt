pub mod Keys
pub mod Booking
pub mod Entries
pub mod Views
pub mod Laws
