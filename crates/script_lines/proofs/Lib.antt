pub mod CallerLemmas
mod CountLaws
mod StringLaws
mod ClassHeadLaws
