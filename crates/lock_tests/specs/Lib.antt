pub mod Counter
pub mod Pairs
pub mod Threads
