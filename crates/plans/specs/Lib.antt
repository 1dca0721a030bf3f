pub mod Refusals
pub mod PlanView
pub mod Places
pub mod Tests
