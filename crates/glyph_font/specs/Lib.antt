pub mod Bits
pub mod Fonts
pub mod Texts
pub mod Faults
pub mod Kept
pub mod Reading
pub mod Examples
