pub mod Blocks
pub mod Entries
pub mod Passes
pub mod Rule
pub mod Seats
