-- The lemmas on the windows of trees that proofs of other crates may cite.
pub use Rattle.win_tree.proofs.BlockLemmas.{number_of-block, length-block, AllBy-rest, AllBy-block, AllBy-whole, filter-block, window_of-block}
pub use Rattle.win_tree.proofs.ValidLemmas.{IsPlaced, placed, family_stands, raised_stands, lowered_stands, created_stands, none_given, IsNew, created_valid, without_valid, raised_valid, lowered_valid, created_found, without_found, raised_found, lowered_found, created_given, without_given, raised_given, lowered_given}
pub use Rattle.win_tree.proofs.ClipLemmas.{family_clipped}
pub use Rattle.win_tree.proofs.ChangeLemmas.{window_of-handle}
pub use Rattle.win_tree.proofs.ReplacementLemmas.{replacement_itself}
pub use Rattle.win_tree.proofs.DamageLemmas.{created_adds, without_takes, changed_changes, raised_reorders, lowered_reorders}
