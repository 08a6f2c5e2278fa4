pub mod Pictures
pub mod Areas
pub mod Canvases
