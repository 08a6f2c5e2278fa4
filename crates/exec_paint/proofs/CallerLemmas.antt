-- The lemmas on rows, tiles and holes that proofs of other crates may cite.
pub use Rattle.exec_paint.proofs.AreaLemmas.{to_row, rows-start, rows-more, rows-end, tiles-none_yet, tiles-row, tiles-all_rows, tiles-same, tiles-empty, row_within, screen_is, on-screen}
pub use Rattle.exec_paint.proofs.LayerLemmas.{has-columns}
pub use Rattle.exec_paint.proofs.PlanLemmas.{covers-points, hides-here, hides-hole, hides-layer, hides-skipped}
