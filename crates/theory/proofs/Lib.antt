pub mod SetLaws
pub mod Lists
pub mod Searches
pub mod Computed
pub mod Lawful
pub mod BankLaws
