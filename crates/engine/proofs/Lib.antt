mod StateLemmas
mod KeptLemmas
mod CallLemmas
pub mod CallerLemmas
