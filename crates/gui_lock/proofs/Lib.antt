mod ApplyAddsOwn
mod BlockLemmas
pub mod CallerLemmas
mod ClaimLemmas
mod PassesAfterCalls
mod PassesGathered
mod SeatsKeepRule
mod StepsKeepRule
mod SumLemmas
