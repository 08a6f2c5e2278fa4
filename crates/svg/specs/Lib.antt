pub mod Rectangles
pub mod Texts
pub mod Pictures
pub mod Reading
pub mod Pieces
pub mod Words
pub mod Outcome
pub mod Endings
