pub mod CallerLemmas
mod ClassLineLaws
