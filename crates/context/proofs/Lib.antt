mod ListLemmas
pub mod CallerLemmas
