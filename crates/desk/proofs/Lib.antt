mod FirstLemmas
mod JobLemmas
mod IgnoreLemmas
mod SceneLemmas
mod EffectLemmas
mod ShapeLemmas
mod BareLemmas
mod MessageLemmas
mod BoneLemmas
mod CoverLemmas
mod PictureLemmas
mod InkLemmas
mod MemdevLemmas
mod DamageLemmas
mod ValidLemmas
pub mod CallerLemmas
