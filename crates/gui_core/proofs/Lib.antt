mod PainterLemmas
mod SceneryLemmas
mod WantLemmas
mod HandleLemmas
mod ContextLemmas
mod HistoryLemmas
pub mod CallerLemmas
