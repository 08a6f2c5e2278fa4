mod ToldLemmas
mod StepLemmas
mod FollowLemmas
mod PlaceLemmas
pub mod CallerLemmas
