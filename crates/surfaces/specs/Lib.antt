pub mod Refusals
pub mod Turns
pub mod Panes
pub mod Seen
