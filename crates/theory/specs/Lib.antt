pub mod Sets
pub mod Banks
pub mod Rules
pub mod Readings
pub mod Verdicts
pub mod Calls
pub mod Worked
