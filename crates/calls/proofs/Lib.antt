pub mod CallerLemmas
mod CallLaws
