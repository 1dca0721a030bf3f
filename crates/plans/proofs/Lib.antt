pub mod Firsts
pub mod Untested
pub mod Entries
pub mod Places
pub mod Reweighs
