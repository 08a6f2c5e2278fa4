-- The lemmas on pictures and counts that proofs of other crates may cite.
pub use Rattle.frame.proofs.PictureLaws.{equal_by_points, colour_at-picture_of, length-picture_of, has_shape-picture_of, colour_at-black, picture_of-colour_at, picture_of-from_points, row_at-points}
pub use Rattle.frame.proofs.PictureLaws.{changed-picture_of, colour_at-changed, has_shape-changed, changed-from_points, changed-none, changed-same, changed-changed}
pub use Rattle.frame.proofs.CountLaws.{count_below-same, count_below-none, count_below-or, count_below-part, points_in-same, points_in-none, points_in-or}
pub use Rattle.frame.proofs.WriteLemmas.{canvas_is, no_more, some_more}
