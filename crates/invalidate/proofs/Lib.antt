mod RectLemmas
mod AreaLemmas
mod LawLemmas
pub mod CallerLemmas
