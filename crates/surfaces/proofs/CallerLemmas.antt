-- The lemmas on buffers and devices that proofs of other crates may cite.
pub use Rattle.surfaces.proofs.DeviceLemmas.{few_handles}
pub use Rattle.surfaces.proofs.TurnLemmas.{Owes, drawn_twice, latest-begin, latest-begun, latest-draw, latest-end, latest-mark, latest-marked, latest-turn, owes-end, owes-turn, owes_nothing, screen-begin, screen-draw, screen-end, screen-ended, screen-mark, screen-marked, screen-showing, screen-turn, turn_is}
pub use Rattle.surfaces.proofs.MarkLemmas.{finds_alone, finds_as_before, finds_buffers, finds_nothing, finds_same, mark_turn, unswitched, waiting-begun}
