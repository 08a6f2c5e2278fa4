mod FrameLemmas
mod TableLemmas
mod SlotLemmas
pub mod CallerLemmas
