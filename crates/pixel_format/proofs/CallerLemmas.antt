-- The lemmas on formats that proofs of other crates may cite.
pub use Rattle.pixel_format.proofs.SoundLemmas.{is_format}
