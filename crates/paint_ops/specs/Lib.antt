pub mod Kinds
pub mod Texts
pub mod Operations
pub mod Soundness
pub mod Rows
pub mod Strips
pub mod Panes
pub mod Pens
