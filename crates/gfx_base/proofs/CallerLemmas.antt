-- The lemmas on rectangles that proofs of other crates may cite.
pub use Rattle.gfx_base.proofs.RectLemmas.{has-empty, is_empty-has, has-corner, has-far_corner, has-no_points, has-meet, has-shift, cover-smallest, same_rect, same_point}
