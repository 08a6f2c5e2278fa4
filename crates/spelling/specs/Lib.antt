pub mod Digits
pub mod Parts
pub mod Words
pub mod Coordinates
pub mod Fields
pub mod Items
pub mod LineReading
pub mod FirstFaults
