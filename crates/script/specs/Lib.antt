pub mod Scripts
pub mod Later
pub mod Faults
pub mod Reading
pub mod Examples
