-- The lemmas on invalidation that proofs of other crates may cite.
pub use Rattle.invalidate.proofs.LawLemmas.{may_become, area_valid, one_valid, place-invalidated, places-invalidated, meet-empty, shift-empty, nothing_invalid}
pub use Rattle.invalidate.proofs.RectLemmas.{is_empty-meet, invalidated-nowhere, corner_is_near}
