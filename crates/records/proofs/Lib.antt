pub mod Repeats
pub mod Shrinks
