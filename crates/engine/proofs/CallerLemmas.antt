-- The lemmas on the core's state that proofs of other crates may cite.
pub use Rattle.engine.proofs.StateLemmas.{is_turn_call, goes, stays_begun, stays_ended, stays_marked, none_held, screen-step, screen-opening, plain_step, owes-call}
pub use Rattle.engine.proofs.KeptLemmas.{jobs-step}
