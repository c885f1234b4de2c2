pub mod Placing
pub mod HouseFirst
