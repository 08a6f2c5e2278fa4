pub mod Invalidation
