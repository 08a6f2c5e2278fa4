-- The lemmas on lines that proofs of other crates may cite.
pub use Rattle.line_ink.proofs.PointLemmas.{clipped-member, clipped-once}
