pub mod CallerLemmas
mod CourseLemmas
mod LineLemmas
mod PointLemmas
mod WindowLemmas
