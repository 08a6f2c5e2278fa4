pub mod CallerLemmas
mod CutLemmas
mod NumberSpellings
mod SpellingLaws
mod CoordinateLaws
mod FieldLaws
mod ItemLaws
mod FirstFaultLaws
