pub mod CallerLemmas
mod AssetLemmas
mod BodyLaws
mod BlockLaws
mod ItemLaws
mod DraftLaws
mod PrefixLaws
mod ReasonLaws
mod ReadingLaws
mod ExampleLaws
