-- The lemmas on fonts that proofs of other crates may cite: the step reads the fonts' lines, and they lie among others in
-- one way.
pub use Rattle.glyph_font.proofs.FaultLaws.{reading}
pub use Rattle.glyph_font.proofs.BlockLaws.{start_is_draft, draft_after, nothing_after, whole_after, height_after, whole_read, whole_says, apart}
