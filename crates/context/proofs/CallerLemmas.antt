-- The lemmas on contexts that proofs of other crates may cite.
pub use Rattle.context.proofs.ListLemmas.{owned_by-with_owned, owned_by-with_owned_other, length-with_owned, with_owned-with_owned, with_owned-owned_by, owned_by-first}
