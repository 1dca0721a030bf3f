pub mod Faults
pub mod Letters
pub mod Fields
pub mod Records
