mod RunLemmas
mod FrameLemmas
