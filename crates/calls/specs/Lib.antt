pub mod Actors
pub mod Lines
pub mod Words
