pub mod CallerLemmas
mod BitLemmas
mod MaxLemmas
mod PixelLemmas
mod SoundLemmas
mod OrderLemmas
