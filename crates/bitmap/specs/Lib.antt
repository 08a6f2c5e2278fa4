pub mod Bitmaps
pub mod Texts
pub mod Faults
pub mod Reading
pub mod Examples
