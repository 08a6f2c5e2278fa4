pub mod Counts
pub mod Files
pub mod Logs
pub mod SinkContents
pub mod StoreContents
pub mod Streams
