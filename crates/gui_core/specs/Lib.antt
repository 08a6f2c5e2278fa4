pub mod Stains
pub mod Promises
pub mod Histories
