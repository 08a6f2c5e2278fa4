pub mod Strokes
pub mod Parts
