pub mod CallerLemmas
mod RectLemmas
mod TileLemmas
