mod SpotLemmas
mod PlaceLemmas
mod DotLemmas
mod PainterLemmas
mod PathLemmas
mod AncestorLemmas
mod StackLemmas
mod VisibleLemmas
mod FollowLemmas
mod TreeLemmas
mod AreaLemmas
mod ChangeLemmas
mod BareLemmas
mod ListLemmas
pub mod CallerLemmas
