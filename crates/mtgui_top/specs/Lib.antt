pub mod Changes
pub mod Playing
pub mod Histories
pub mod Words
pub mod Promises
pub mod Outcome
pub mod Examples
pub mod Statuses
