pub mod Joins
pub mod Stepped
pub mod Playing
pub mod Rounds
