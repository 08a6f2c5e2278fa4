mod DeviceLemmas
mod SurfaceLemmas
mod TurnLemmas
mod MarkLemmas
pub mod CallerLemmas
