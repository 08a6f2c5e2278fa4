pub mod CallerLemmas
mod DraftLaws
mod ExampleLaws
mod FaultLaws
mod PushLemmas
mod RowLaws
mod RunLaws
