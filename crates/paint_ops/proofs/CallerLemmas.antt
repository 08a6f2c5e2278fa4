-- The lemmas on rows, strips and spans that proofs of other crates may cite.
pub use Rattle.paint_ops.proofs.RowLemmas.{colour_at-row_drawn}
pub use Rattle.paint_ops.proofs.StripLemmas.{same_test, within-parts, within-from, in-parts, in-from}
pub use Rattle.paint_ops.proofs.SpanLemmas.{in_first}
