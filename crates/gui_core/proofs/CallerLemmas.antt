-- The lemmas on the core that proofs of other crates may cite.
pub use Rattle.gui_core.proofs.PainterLemmas.{quiet_is_painter, quiet_undrawn}
pub use Rattle.gui_core.proofs.SceneryLemmas.{painting_moves_nothing}
pub use Rattle.gui_core.proofs.HistoryLemmas.{state-append, refusals-append, calls-append, stand-append, enters-state, answers-alone, look-alone, entered}
