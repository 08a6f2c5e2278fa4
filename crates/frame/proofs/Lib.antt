pub mod CallerLemmas
mod CountLaws
mod PictureLaws
mod SpanLemmas
mod TileLemmas
mod WriteLemmas
