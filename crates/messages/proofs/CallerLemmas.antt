-- The lemmas on messages that proofs of other crates may cite.
pub use Rattle.messages.proofs.WindowLemmas.{kept, place-with_new_values, class-with_new_values, rest_of-with_new_values, itself_given}
pub use Rattle.messages.proofs.KeepingLemmas.{revalued, kept_by_message, kept_by_message_of, places_revalued}
pub use Rattle.messages.proofs.LawLemmas.{revalued_valid, put_valid}
pub use Rattle.messages.proofs.DamageLemmas.{new_values_alone, damage_revalued}
