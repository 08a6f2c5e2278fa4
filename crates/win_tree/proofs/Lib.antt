mod SlotLemmas
mod ForestLemmas
mod LinkLemmas
mod FreeLemmas
mod FamilyLemmas
mod TreeLemmas
mod ChangeLemmas
mod ReplacementLemmas
mod StackLemmas
mod BlockLemmas
mod ListLemmas
mod ValidLemmas
mod ClipLemmas
mod DamageLemmas
pub mod CallerLemmas
