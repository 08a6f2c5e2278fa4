pub mod CallerLemmas
mod BitLemmas
mod BlockLaws
mod DraftLaws
mod FaultLaws
mod FontLemmas
mod LineLaws
mod LinesReadLemmas
mod TakeLemmas
