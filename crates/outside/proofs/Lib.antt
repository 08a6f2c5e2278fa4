mod PrefixLemmas
mod KnownBytes
pub mod CallerLemmas
