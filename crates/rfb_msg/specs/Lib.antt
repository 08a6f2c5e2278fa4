pub mod Grammar
pub mod Kept
pub mod Standing
pub mod Streams
pub mod Reading
