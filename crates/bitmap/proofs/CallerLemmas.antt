-- The lemmas on reading a bitmap line by line that proofs of other crates may cite.
pub use Rattle.bitmap.proofs.DraftLaws.{start_is_draft, draft_after, nothing_after, sides_after, whole_says, whole_place}
pub use Rattle.bitmap.proofs.FaultLaws.{reading, whole_read, apart}
